-- How many commands a nexus sent, after one more.
use Rattle.pr_roles.proofs.Common.{◌≡◌, ℕ, ◌+◌, true, false, cond, List, [], ◌∷◌, ◌==◌, ap, arith, nat_tests, sum_by_push, Entry, Item}
use Rattle.std.specs.Prelude.{◌++◌, ◌≢◌}
use Rattle.pr_roles.specs.declared.item.Item.TheVariants.{Sent, Reset}
use Rattle.pr_roles.specs.Worlds.{commands_by, is_sent_by}

pub sent_more : (es : List Item) (e : Entry) (h : ℕ) → commands_by (es ++ Sent e ∷ []) h ≡ commands_by es h + cond (e.host == h) 1 0
sent_more es e h = sum_by_push (λ x. cond (is_sent_by h x) 1 0) es (Sent e)

pub sent_other : (es : List Item) (e : Entry) (h : ℕ) → h ≢ e.host → commands_by (es ++ Sent e ∷ []) h ≡ commands_by es h
sent_other es e h other =
    let differs : (e.host == h) ≡ false = grind (arith, nat_tests) in
    let none = ap {B = ℕ} (λ b. cond b 1 0) differs in
    omega (arith, sent_more es e h, none)

pub sent_own : (es : List Item) (e : Entry) (h : ℕ) → e.host ≡ h → commands_by (es ++ Sent e ∷ []) h ≡ commands_by es h + 1
sent_own es e h own =
    let same : (e.host == h) ≡ true = grind (arith, nat_tests) in
    let one = ap {B = ℕ} (λ b. cond b 1 0) same in
    omega (arith, sent_more es e h, one)

pub sent_reset : (es : List Item) (h : ℕ) → commands_by (es ++ Reset ∷ []) h ≡ commands_by es h
sent_reset es h = let more = sum_by_push (λ x. cond (is_sent_by h x) 1 0) es Reset in omega (arith, more)
