use Rattle.pr_unit.proofs.lemmas.Steps.WellFormedSteps.{well_formed-step}
use Rattle.pr_unit.proofs.laws.steps_are_well_formed.Goals as goal

pub returns : goal.returns
returns c = well_formed-step
