-- A reset is no command that a seat counts.
use Rattle.std.proofs.Common.{◌≡◌, ℕ, Bool, true, false, if◌then◌else◌, cond, List, [], ◌∷◌, ◌++◌, ap, ◌∙◌, arith}
use Rattle.std.proofs.lemmas.List.Sums.{sum_by_push}
use Rattle.pr_roles.specs.declared.item.Item.{Item}
use Rattle.pr_roles.specs.declared.item.Item.TheVariants.{Reset}
use Rattle.pr_roles.specs.Scenarios.{Scenario}
use Rattle.pr_roles.specs.Schedules.{Schedule, ResetTurn}
use Rattle.pr_roles.specs.Worlds.{after_reset, may_reset}
use Rattle.pr_shared.specs.Histories.{is_sent, sent_in}

sent_after_reset : (es : List Item) → sent_in (es ++ Reset ∷ []) ≡ sent_in es
sent_after_reset es = let more = sum_by_push (λ x. cond (is_sent x) 1 0) es Reset in omega (arith, more)

pub counted_still : (s : Scenario) (x y : Schedule) (n : ℕ) → ResetTurn s x y → sent_in x.world.history ≡ n → sent_in y.world.history ≡ n
counted_still s x y n turn counted = at (may_reset s x.world.history) turn
  where
    at : (b : Bool) → y ≡ (if b then record x { world = after_reset x.world } else x) → sent_in y.world.history ≡ n
    at true same = ap (λ (z : Schedule). sent_in z.world.history) same ∙ sent_after_reset x.world.history ∙ counted
    at false same = ap (λ (z : Schedule). sent_in z.world.history) same ∙ counted
