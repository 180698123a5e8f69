use Rattle.pr_commands.proofs.lemmas.Runs.Outcomes.{run_performed, fault_performed, fault_handed_on}
use Rattle.pr_commands.proofs.runs.perform.Goals as goal

pub returns-in_ok-ran-in-Ok-clause-performed : goal.returns-in_ok-ran-in-Ok-clause-performed
returns-in_ok-ran-in-Ok-clause-performed g c = run_performed _ _ _ _ _ c.in-Ok.is c.in_ok-accepted.ensures.judged c.in_ok-ran-in-Ok.ensures.same c.in_ok-ran-in-Ok.ensures.comes

pub returns-in_err-ran-in-Ok-clause-performed : goal.returns-in_err-ran-in-Ok-clause-performed
returns-in_err-ran-in-Ok-clause-performed g c =
    let told = c.from_residual-in_err-ran-in-Ok.ensures in
    fault_handed_on _ _ _ told.0 told.1 (fault_performed _ _ _ _ _ c.in-Ok.is c.in_ok-accepted.ensures.judged c.in_err-ran-in-Ok.ensures.fault)
