use Rattle.pr_unit.proofs.lemmas.Steps.Existence.{every_request_has_a_step}
use Rattle.pr_unit.proofs.laws.every_request_has_a_step.Goals as goal

pub returns : goal.returns
returns c = every_request_has_a_step
