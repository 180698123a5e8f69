-- The commands of a history counted by their senders.
use Rattle.pr_world.proofs.Common.{◌≡◌, ℕ, ◌+◌, ◌<◌, ◌≤◌, Bool, true, false, List, [], ◌∷◌, ◌++◌, length, get_or, sym, refl, ap, ◌∙◌, subst, arith, nat_tests, get_or_past, commands_by, Entry, Item, Sent, Reset}
use Rattle.std.proofs.Common.{◌≢◌, ◌-◌, ◌==◌, cond, set, get_or-set_same, get_or-set_other, sum}
use Rattle.std.proofs.lemmas.List.Sums.{sum_by-cons, sum_by-set, sum_by_push}
use Rattle.pr_roles.specs.Worlds.{is_sent_by, resets_in}
use Rattle.pr_roles.proofs.lemmas.Worlds.Resets.{resets-cons}

-- ---- one item more

-- one for its sender, and none for another; a reset counts for nobody
abbrev pub counts : Item → ℕ → ℕ
counts e h = cond (is_sent_by h e) 1 0

sent-cons : (e : Item) (es : List Item) (h : ℕ) → commands_by (e ∷ es) h ≡ counts e h + commands_by es h
sent-cons e es h = sum_by-cons (λ x. cond (is_sent_by h x) 1 0) e es

pub sent-push : (es : List Item) (e : Item) (h : ℕ) → commands_by (es ++ e ∷ []) h ≡ commands_by es h + counts e h
sent-push es e h = sum_by_push (λ x. cond (is_sent_by h x) 1 0) es e

counts_own : (e : Entry) → counts (Sent e) e.host ≡ 1
counts_own e = grind (arith, nat_tests)

counts_other : (e : Entry) (h : ℕ) → e.host ≢ h → counts (Sent e) h ≡ 0
counts_other e h other = grind (arith, nat_tests)

pub sent_other : (es : List Item) (e : Entry) (h : ℕ) → e.host ≢ h → commands_by (es ++ Sent e ∷ []) h ≡ commands_by es h
sent_other es e h other = omega (arith, sent-push es (Sent e) h, counts_other e h other)

pub sent_own : (es : List Item) (e : Entry) (h : ℕ) → e.host ≡ h → commands_by (es ++ Sent e ∷ []) h ≡ commands_by es h + 1
sent_own es e h own = sent-push es (Sent e) h ∙ ap (λ n. commands_by es h + n) (subst (λ k. counts (Sent e) k ≡ 1) own (counts_own e))

-- ---- no more than there is room for, but for resets

-- room for one entry less of this sender
abbrev pub lowered : List ℕ → ℕ → List ℕ
lowered rs i = set rs i (get_or rs i 0 - 1)

within : (rs : List ℕ) (i : ℕ) → 1 ≤ get_or rs i 0 → i < length rs
within rs i some = grind (arith, get_or_past rs i 0)

sum-lowered : (rs : List ℕ) (i : ℕ) → 1 ≤ get_or rs i 0 → sum (lowered rs i) + 1 ≡ sum rs
sum-lowered rs i some = omega (arith, sum_by-set (λ x. x) rs i (get_or rs i 0 - 1) 0 (within rs i some))

-- what is sent is within the room that is left, once one more of this sender is
at_lowered : (rs : List ℕ) (i h n : ℕ) → 1 ≤ get_or rs i 0 → n ≤ get_or rs h 0 → (h ≡ i → n + 1 ≤ get_or rs h 0) → n ≤ get_or (lowered rs i) h 0
at_lowered rs i h n some few less = at (h == i) refl
  where
    at : (b : Bool) → (h == i) ≡ b → n ≤ get_or (lowered rs i) h 0
    at true is =
        let same : h ≡ i = grind (arith, nat_tests) in
        let own = get_or-set_same rs i (get_or rs i 0 - 1) 0 (within rs i some) in
        let here : get_or (lowered rs i) h 0 ≡ get_or rs h 0 - 1 = ap (λ k. get_or (lowered rs i) k 0) same ∙ (own ∙ ap (λ k. get_or rs k 0 - 1) (sym same)) in
        omega (arith, here, less same)
    at false is =
        let other : h ≢ i = grind (arith, nat_tests) in
        omega (arith, get_or-set_other rs i h (get_or rs i 0 - 1) 0 other)

pub all_have_room : (rs : List ℕ) (es : List Item) → ((h : ℕ) → commands_by es h ≤ get_or rs h 0) → length es ≤ sum rs + resets_in es
all_have_room rs [] few = omega arith
all_have_room rs (Sent e ∷ es) few =
    let own : commands_by es e.host + 1 ≤ get_or rs e.host 0 = omega (arith, sent-cons (Sent e) es e.host, counts_own e, few e.host) in
    let some : 1 ≤ get_or rs e.host 0 = omega (arith, own) in
    let rest = all_have_room (lowered rs e.host) es (λ h. at_lowered rs e.host h (commands_by es h) some (omega (arith, sent-cons (Sent e) es h, few h)) (λ same. subst (λ k. commands_by es k + 1 ≤ get_or rs k 0) (sym same) own)) in
    omega (arith, sum-lowered rs e.host some, rest, resets-cons (Sent e) es)
all_have_room rs (Reset ∷ es) few =
    let rest = all_have_room rs es (λ h. omega (arith, sent-cons Reset es h, few h)) in
    omega (arith, rest, resets-cons Reset es)

-- and one that has not sent as many as it may finds room
pub one_has_room : (rs : List ℕ) (es : List Item) (i : ℕ) → ((h : ℕ) → commands_by es h ≤ get_or rs h 0) → commands_by es i < get_or rs i 0 → length es < sum rs + resets_in es
one_has_room rs es i few less =
    let own : commands_by es i + 1 ≤ get_or rs i 0 = omega arith in
    let some : 1 ≤ get_or rs i 0 = omega (arith, own) in
    let rest = all_have_room (lowered rs i) es (λ h. at_lowered rs i h (commands_by es h) some (few h) (λ same. subst (λ k. commands_by es k + 1 ≤ get_or rs k 0) (sym same) own)) in
    omega (arith, sum-lowered rs i some, rest)
