use Rattle.pr_commands.proofs.Common.{scenario_of}
use Rattle.pr_commands.specs.Witnesses.{IsWitnessOf}
use Rattle.pr_commands.specs.inside.Witnessed.{answer_in, scenario_in}
use Rattle.pr_commands.proofs.lemmas.Endings.Answers.{answered, cut, whole}
use Rattle.pr_commands.proofs.witnesses.witness_text.Goals as goal

pub returns-in_err-put_witnessed-clause-ends : goal.returns-in_err-put_witnessed-clause-ends
returns-in_err-put_witnessed-clause-ends g c =
    let w = c.in_ok-witnessed.witnessed in
    let found = c.in_ok-witnessed.ensures.witnessed in
    cut _ _ _ _ _ _ _ _ _ _ _ (answered _ _ _ _ (scenario_of (scenario_in w)) (answer_in w) found.0 found.1) c.in_err-put_witnessed.ensures c.from_residual-in_err-put_witnessed.ensures.1

pub returns-clause-ends : goal.returns-clause-ends
returns-clause-ends g c =
    let w = c.in_ok-witnessed.witnessed in
    let found = c.in_ok-witnessed.ensures.witnessed in
    whole IsWitnessOf _ _ _ _ _ _ (answered _ _ _ _ (scenario_of (scenario_in w)) (answer_in w) found.0 found.1) c.is_no.ensures c.in_ok-put_witnessed.ensures
