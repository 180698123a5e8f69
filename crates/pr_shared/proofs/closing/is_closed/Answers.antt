use Rattle.pr_shared.proofs.lemmas.Outcomes.Comparisons.{just_over}
use Rattle.pr_shared.proofs.closing.is_closed.Goals as goal

pub returns-then-are_one : goal.returns-then-are_one
returns-then-are_one c = just_over _ _ c.args.world.now c.args.ends.now _ _ c.if-are_one.true c.are_one.ensures c.requires c.are_over.ensures
