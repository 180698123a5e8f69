use Rattle.pr_unit.proofs.lemmas.UnitStates.Effects.{effects_are_well_formed}
use Rattle.pr_unit.proofs.laws.effects_are_well_formed.Goals as goal

pub returns : goal.returns
returns c = effects_are_well_formed
