-- Equal element by element.
use Rattle.pr_roles.proofs.Common.{rules, slice_eq-Decides}
use Rattle.pr_roles.proofs.copying.same_reservations.Goals as goal

pub returns : goal.returns
returns c = slice_eq-Decides (λ a b. search rules) _ _ c.eq.result c.eq.ensures
