use Rattle.pr_unit.proofs.lemmas.TakenSteps.GoodSteps.{good_effect}
use Rattle.pr_unit.proofs.laws.good_steps_take_effect.Goals as goal

pub returns : goal.returns
returns c = good_effect
