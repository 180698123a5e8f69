use Rattle.std.proofs.Common.{refl}
use Rattle.pr_shared.proofs.lemmas.Outcomes.Comparisons.{just_halted}
use Rattle.pr_shared.proofs.closing.is_halted.Goals as goal

pub returns-then-are_one : goal.returns-then-are_one
returns-then-are_one c = just_halted _ _ c.args.lists.now (λ l. l.items) _ _ _ _ c.if-are_one.true c.are_one.ensures c.history.ensures.value refl c.are_before.ensures
