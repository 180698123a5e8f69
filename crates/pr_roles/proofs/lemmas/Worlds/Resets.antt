-- How often the unit is reset in a run.
use Rattle.pr_roles.proofs.Common.{◌≡◌, ℕ, ◌+◌, ◌<◌, ◌≤◌, true, false, cond, ◌&&◌, ◌⊎◌, List, [], ◌∷◌, nat_lt, nat_le, ◌==◌, sym, ap, ◌∙◌, subst, inl, inr, arith, false≢true, nat_tests, Scenario, world_from, ◌++◌, sum_by_push, Entry, Item, World, Event, Host, Run}
use Rattle.std.proofs.Common.{zero-add}
use Rattle.std.specs.List.{count_by}
use Rattle.std.proofs.lemmas.Bool.{or_cases}
use Rattle.std.proofs.lemmas.List.Sums.{sum_by-cons}
use Rattle.pr_cdb.specs.Spelling.{spelling}
use Rattle.pr_roles.specs.declared.limits.TheConstants.{MOST_RESETS}
use Rattle.pr_roles.specs.declared.item.Item.TheVariants.{Sent, Reset}
use Rattle.pr_roles.specs.Fitting.{are_resets}
use Rattle.pr_roles.specs.Worlds.{Guest, UnitReset, Fetched, Happens, entry_of, is_reset, resets_in}
use Rattle.pr_roles.specs.Laws.{is_reset_event, ResetsAreCounted, ResetsAreDeclared, FirstVersionHasNoReset}

pub resets-cons : (e : Item) (es : List Item) → resets_in (e ∷ es) ≡ cond (is_reset e) 1 0 + resets_in es
resets-cons e es = sum_by-cons (λ x. cond (is_reset x) 1 0) e es

pub resets-push : (es : List Item) (e : Item) → resets_in (es ++ e ∷ []) ≡ resets_in es + cond (is_reset e) 1 0
resets-push es e = sum_by_push (λ x. cond (is_reset x) 1 0) es e

-- a command resets nothing
pub resets_same : (es : List Item) (e : Entry) → resets_in (es ++ Sent e ∷ []) ≡ resets_in es
resets_same es e = omega (arith, resets-push es (Sent e))

pub resets_more : (s : Scenario) (w : World) (e : Event) (v : World) → Happens s w e v → resets_in v.history ≡ resets_in w.history + cond (is_reset_event e) 1 0
resets_more s w (Host g other) v sends = ap (λ (x : World). resets_in x.history) sends.world ∙ resets-push w.history (Sent (entry_of g (spelling sends.command) sends.reply))
resets_more s w (Guest g wire other) v sends = ap (λ (x : World). resets_in x.history) sends.world ∙ resets-push w.history (Sent (entry_of g wire sends.reply))
resets_more s w UnitReset v resets = ap (λ (x : World). resets_in x.history) resets.world ∙ resets-push w.history Reset
resets_more s w (Fetched h code) v fetched = let same = ap (λ (x : World). resets_in x.history) fetched.world in omega (arith, same)

run_counted : (s : Scenario) (w : World) (es : List Event) (v : World) → Run s w es v → resets_in v.history ≡ resets_in w.history + count_by is_reset_event es
run_counted s w [] v run = let same = ap (λ (x : World). resets_in x.history) run in omega (arith, same)
run_counted s w (e ∷ es) v run =
    let first = resets_more s w e run.0 run.1 in
    let rest = run_counted s run.0 es v run.2 in
    let split : count_by is_reset_event (e ∷ es) ≡ cond (is_reset_event e) 1 0 + count_by is_reset_event es = sum_by-cons (λ x. cond (is_reset_event x) 1 0) e es in
    omega (arith, first, rest, split)

pub one_within : (s : Scenario) (w : World) (e : Event) (v : World) → Happens s w e v → resets_in w.history ≤ s.resets → resets_in v.history ≤ s.resets
one_within s w UnitReset v resets within =
    let more = resets_more s w UnitReset v resets in
    let room : resets_in w.history < s.resets = let may = resets.room in grind (arith, nat_tests) in
    omega (arith, more, room)
one_within s w e v sends within = let more = resets_more s w e v sends in omega (arith, more, within)

pub run_within : (s : Scenario) (w : World) (es : List Event) (v : World) → Run s w es v → resets_in w.history ≤ s.resets → resets_in v.history ≤ s.resets
run_within s w [] v run within = subst (λ (x : World). resets_in x.history ≤ s.resets) (sym run) within
run_within s w (e ∷ es) v run within = run_within s run.0 es v run.2 (one_within s w e run.0 run.1 within)

pub resets_are_counted : ResetsAreCounted
resets_are_counted s u es w run = run_counted s (world_from s u) es w run ∙ zero-add (count_by is_reset_event es)

pub resets_are_declared : ResetsAreDeclared
resets_are_declared s u es w run = subst (λ n. n ≤ s.resets) (resets_are_counted s u es w run) (run_within s (world_from s u) es w run (omega arith))

-- ---- version 1

none_declared : (n : ℕ) → are_resets 1 n ≡ true → n ≡ 0
none_declared n is = at (or_cases (n == 0) (nat_le 2 1 && nat_le n MOST_RESETS) is)
  where
    at : ((n == 0) ≡ true) ⊎ ((nat_le 2 1 && nat_le n MOST_RESETS) ≡ true) → n ≡ 0
    at (inl none) = grind (arith, nat_tests)
    at (inr later) = absurd (false≢true later)

pub first_version_has_no_reset : FirstVersionHasNoReset
first_version_has_no_reset s fits first es =
    let none = none_declared s.resets (subst (λ v. are_resets v s.resets ≡ true) first fits.resets) in
    not_below (resets_in es) s.resets none
  where
    not_below : (n m : ℕ) → m ≡ 0 → nat_lt n m ≡ false
    not_below n m none = grind (arith, nat_tests)
