use Rattle.pr_audit.proofs.Common.{take, scenario_of}
use Rattle.pr_audit.proofs.lemmas.Audits.KnownWorlds.{IsKnown}
use Rattle.pr_audit.proofs.auditing.audit.Given as goal

-- the audit is past the history before this one
abbrev pub invariant-loop-index : goal.invariant-loop-index
invariant-loop-index l = IsKnown (scenario_of l.scenario) (take l.index l.history) l.auditor
