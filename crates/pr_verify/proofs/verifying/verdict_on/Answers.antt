use Rattle.pr_verify.proofs.Common.{scenario_of, IsVerdict}
use Rattle.std.proofs.lemmas.Result.{IfErr-at_err}
use Rattle.pr_verify.proofs.lemmas.Verdicts.Reasons.{none_fit}
use Rattle.pr_verify.proofs.verifying.verdict_on.Goals as goal

pub returns-in-Err-clause-none : goal.returns-in-Err-clause-none
returns-in-Err-clause-none c = none_fit (scenario_of c.args.scenario) c.in-Err.refusal (IfErr-at_err (IsVerdict (scenario_of c.args.scenario)) c.in-Err.is c.requires.verdict)
