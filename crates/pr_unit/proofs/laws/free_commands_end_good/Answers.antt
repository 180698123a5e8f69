use Rattle.pr_unit.proofs.lemmas.TakenSteps.GoodSteps.{good_step}
use Rattle.pr_unit.proofs.laws.free_commands_end_good.Goals as goal

pub returns : goal.returns
returns c = good_step
