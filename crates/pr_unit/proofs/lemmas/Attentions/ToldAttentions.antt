-- What is pending for a nexus once it was told.
use Rattle.pr_unit.proofs.Common.{◌≡◌, ℕ, Bool, true, false, refl, ◌&&◌, ◌||◌, ◌==◌, sym, ap, ◌∙◌, reservations_preempted, reservations_released, registrations_preempted, Pairs, each_with, no_change, contains-nobody, pending_after}
use Rattle.std.specs.FinSet as set
use Rattle.pr_registry.specs.declared.change.Change.{Change}
use Rattle.pr_unit.specs.SharedPaths.{NoMore}
use Rattle.pr_unit.proofs.lemmas.Attentions.Pairs.{same_pairs, contains-union-pairs, contains-each_with}

-- a code is pending: it was, or one of the three was told
abbrev pub is_pending_after : Bool → Bool → Bool → Bool → ℕ → Bool
is_pending_after was a b c code =
    ((was || (a && code == reservations_preempted)) || (b && code == reservations_released)) || (c && code == registrations_preempted)

pub contains-told : (pending : Pairs) (t : Change) (h code : ℕ)
    → set.contains (pending_after pending t) (h, code) ≡ is_pending_after (set.contains pending (h, code)) (set.contains t.told_03 h) (set.contains t.told_04 h) (set.contains t.told_05 h) code
contains-told pending t h code =
    let e3 = each_with t.told_03 reservations_preempted in
    let e4 = each_with t.told_04 reservations_released in
    let e5 = each_with t.told_05 registrations_preempted in
    contains-union-pairs (set.union (set.union pending e3) e4) e5 (h, code)
    ∙ (λ i. (contains-union-pairs (set.union pending e3) e4 (h, code) ∙ (λ j. (contains-union-pairs pending e3 (h, code) ∙ ap (λ b. set.contains pending (h, code) || b) (contains-each_with t.told_03 reservations_preempted h code)) j
    || contains-each_with t.told_04 reservations_released h code j)) i
    || contains-each_with t.told_05 registrations_preempted h code i)

-- the host is told of nothing
pub record IsUntold (t : Change) (h : ℕ) : Type 0 where
  pub untold_03 : set.contains t.told_03 h ≡ false
  pub untold_04 : set.contains t.told_04 h ≡ false
  pub untold_05 : set.contains t.told_05 h ≡ false

nothing_more : (x : Bool) (code : ℕ) → is_pending_after x false false false code ≡ x
nothing_more true code = refl
nothing_more false code = refl

-- then the same is pending for it
pub contains-untold : (pending : Pairs) (t : Change) (h code : ℕ) → IsUntold t h → set.contains (pending_after pending t) (h, code) ≡ set.contains pending (h, code)
contains-untold pending t h code none =
    contains-told pending t h code
    ∙ (λ i. is_pending_after (set.contains pending (h, code)) (none.untold_03 i) (none.untold_04 i) (none.untold_05 i) code)
    ∙ nothing_more (set.contains pending (h, code)) code

-- nobody is told
pub told-no_change : (pending : Pairs) → pending_after pending no_change ≡ pending
told-no_change pending = same_pairs _ _ (λ p. contains-untold pending no_change p.0 p.1 (record { untold_03 = contains-nobody p.0; untold_04 = contains-nobody p.0; untold_05 = contains-nobody p.0 }))

-- what is alike before a change tells somebody is alike behind it
pub told_alike : (from to : Pairs) (t : Change) (h code : ℕ) → set.contains to (h, code) ≡ set.contains from (h, code)
    → set.contains (pending_after to t) (h, code) ≡ set.contains (pending_after from t) (h, code)
told_alike from to t h code same =
    contains-told to t h code
    ∙ ap (λ was. is_pending_after was (set.contains t.told_03 h) (set.contains t.told_04 h) (set.contains t.told_05 h) code) same
    ∙ sym (contains-told from t h code)

more_after : (was more a b c : Bool) (code : ℕ) → (was ≡ true → more ≡ true) → is_pending_after was a b c code ≡ true → is_pending_after more a b c code ≡ true
more_after true more a b c code same is = ap (λ x. is_pending_after x a b c code) (same refl)
more_after false true a b c code same is = refl
more_after false false a b c code same is = is

-- where no more is pending before a change tells somebody, no more is behind it
pub told_no_more : (shared : Bool) (from to : Pairs) (t : Change) (h code : ℕ) → NoMore shared (set.contains from (h, code)) (set.contains to (h, code))
    → NoMore shared (set.contains (pending_after from t) (h, code)) (set.contains (pending_after to t) (h, code))
told_no_more false from to t h code same = told_alike to from t h code same
told_no_more true from to t h code more = λ is.
    contains-told to t h code
    ∙ more_after (set.contains from (h, code)) (set.contains to (h, code)) (set.contains t.told_03 h) (set.contains t.told_04 h) (set.contains t.told_05 h) code more (sym (contains-told from t h code) ∙ is)
