use Rattle.pr_commands.proofs.Common.{◌∙◌, scenario_of}
use Rattle.pr_commands.specs.Runs.{IsRunOf}
use Rattle.pr_commands.specs.inside.Performances.{answer_in, scenario_in}
use Rattle.pr_commands.proofs.lemmas.Endings.Answers.{answered, cut, whole}
use Rattle.pr_commands.proofs.lemmas.Runs.Outcomes.{is_refused}
use Rattle.pr_commands.proofs.runs.run_text.Goals as goal

pub returns-in_err-put_performed-clause-ends : goal.returns-in_err-put_performed-clause-ends
returns-in_err-put_performed-clause-ends g c =
    let p = c.in_ok-performed.performed in
    let performed = c.in_ok-performed.ensures.performed in
    cut _ _ _ _ _ _ _ _ _ _ _ (answered _ _ _ _ (scenario_of (scenario_in p)) (answer_in p) performed.0 performed.1) c.in_err-put_performed.ensures c.from_residual-in_err-put_performed.ensures.1

pub returns-clause-ends : goal.returns-clause-ends
returns-clause-ends g c =
    let p = c.in_ok-performed.performed in
    let performed = c.in_ok-performed.ensures.performed in
    whole IsRunOf _ _ _ _ _ _ (answered _ _ _ _ (scenario_of (scenario_in p)) (answer_in p) performed.0 performed.1) (c.is_err.ensures.value ∙ is_refused p) c.in_ok-put_performed.ensures
