use Rattle.pr_unit.proofs.lemmas.TakenSteps.Determinism.{good_is_fixed}
use Rattle.pr_unit.proofs.laws.good_is_fixed.Goals as goal

pub returns : goal.returns
returns c = good_is_fixed
