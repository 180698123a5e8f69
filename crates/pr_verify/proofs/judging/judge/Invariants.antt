use Rattle.pr_verify.proofs.Common.{scenario_of}
use Rattle.pr_verify.proofs.lemmas.Tabling.Judgements.{IsJudgementBefore}
use Rattle.pr_verify.proofs.lemmas.Tabling.Rows.{AreBeforeHost}
use Rattle.pr_verify.proofs.judging.judge.Given as goal

-- as after the nexuses before this one
abbrev pub invariant-loop-host : goal.invariant-loop-host
invariant-loop-host l = AreBeforeHost (scenario_of l.scenario) l.host l.tables.items × IsJudgementBefore (scenario_of l.scenario) l.host l.refusal
