-- What is added to possibilities, step by step.
use Rattle.pr_regions.proofs.Common.{◌≡◌, ℕ, ◌+◌, ◌<◌, true, ◌||◌, List, length, sym, ◌∙◌, subst, inl, inr, ◌⊎◌, get_or_default, UnitState, has, Scope, Registration, has_wide, Possibilities, Item, Reservation, Attentions, IsPossible, has_at, view_in, Adds}
use Rattle.std.proofs.Common.{slice_index_or, below_more}
use Rattle.std.proofs.lemmas.Bool.{or_left, or_right, or_cases}
use Rattle.pr_regions.specs.inside.Adding.{Allows}

pub grown : (s : Scope) (p q : Possibilities) (u : UnitState) → ((i : Item) → IsPossible (view_in s p) i → IsPossible (view_in s q) i) → Allows s p u → Allows s q u
grown s p q u grows allows = record { items = λ i so. grows i (allows.items i so); numbered = allows.numbered; pending = allows.pending }

-- nothing is added
pub adds_nothing : (s : Scope) (p : Possibilities) (leads : UnitState → UnitState → Type 0) (leaves : Item → Type 0) → ((u w : UnitState) → leads u w → ⊥) → Adds s p p leads leaves
adds_nothing s p leads leaves none = record {
  kept = λ i is. is;
  all = λ u w led. absurd (none u w led);
  only = λ i is. inl is;
}

-- one after the other
pub adds_both : (s : Scope) (p q r : Possibilities) (L M N : UnitState → UnitState → Type 0) (V W X : Item → Type 0) → Adds s p q L V → Adds s q r M W
    → ((u w : UnitState) → N u w → L u w ⊎ M u w) → ((i : Item) → V i → X i) → ((i : Item) → W i → X i) → Adds s p r N X
adds_both s p q r L M N V W X before then_ splits left right = record {
  kept = λ i is. then_.kept i (before.kept i is);
  all = λ u w led. all u w (splits u w led);
  only = λ i is. only i (then_.only i is);
}
  where
    all : (u w : UnitState) → L u w ⊎ M u w → Allows s r w
    all u w (inl led) = grown s q r w then_.kept (before.all u w led)
    all u w (inr led) = then_.all u w led

    first : (i : Item) → IsPossible (view_in s p) i ⊎ V i → IsPossible (view_in s p) i ⊎ X i
    first i (inl is) = inl is
    first i (inr is) = inr (left i is)

    only : (i : Item) → IsPossible (view_in s q) i ⊎ W i → IsPossible (view_in s p) i ⊎ X i
    only i (inl is) = first i (before.only i is)
    only i (inr is) = inr (right i is)

-- ---- joined possibilities

pub record IsJoined (old other new : Possibilities) : Type 0 where
  pub registrations : (g r : ℕ) → has_at new.registrations g r ≡ (has_at old.registrations g r || has_at other.registrations g r)
  pub reservations : (x : ℕ) → has_wide new.reservations x ≡ (has_wide old.reservations x || has_wide other.reservations x)
  pub pending : (q : ℕ) → has new.pending q ≡ (has old.pending q || has other.pending q)

pub joined_old : (s : Scope) (old other new : Possibilities) (i : Item) → IsJoined old other new → IsPossible (view_in s old) i → IsPossible (view_in s new) i
joined_old s old other new (Registration g r) joined is = (is.0, joined.registrations g r ∙ or_left _ (has_at other.registrations g r) is.1)
joined_old s old other new (Reservation x) joined is = joined.reservations x ∙ or_left _ (has_wide other.reservations x) is
joined_old s old other new (Attentions q) joined is = joined.pending q ∙ or_left _ (has other.pending q) is

pub joined_other : (s : Scope) (old other new : Possibilities) (i : Item) → IsJoined old other new → IsPossible (view_in s other) i → IsPossible (view_in s new) i
joined_other s old other new (Registration g r) joined is = (is.0, joined.registrations g r ∙ or_right (has_at old.registrations g r) _ is.1)
joined_other s old other new (Reservation x) joined is = joined.reservations x ∙ or_right (has_wide old.reservations x) _ is
joined_other s old other new (Attentions q) joined is = joined.pending q ∙ or_right (has old.pending q) _ is

pub joined_either : (s : Scope) (old other new : Possibilities) (i : Item) → IsJoined old other new → IsPossible (view_in s new) i → IsPossible (view_in s old) i ⊎ IsPossible (view_in s other) i
joined_either s old other new (Registration g r) joined is =
    at (or_cases (has_at old.registrations g r) (has_at other.registrations g r) (sym (joined.registrations g r) ∙ is.1))
  where
    at : (has_at old.registrations g r ≡ true) ⊎ (has_at other.registrations g r ≡ true) → IsPossible (view_in s old) (Registration g r) ⊎ IsPossible (view_in s other) (Registration g r)
    at (inl had) = inl (is.0, had)
    at (inr had) = inr (is.0, had)
joined_either s old other new (Reservation x) joined is = or_cases (has_wide old.reservations x) (has_wide other.reservations x) (sym (joined.reservations x) ∙ is)
joined_either s old other new (Attentions q) joined is = or_cases (has old.pending q) (has other.pending q) (sym (joined.pending q) ∙ is)

-- ---- one after another

-- what is of one of the first numbers is of one before the last, or of the last
pub below_or_last : (P : ℕ → Type 0) (n : ℕ) → (k : ℕ) × (k < n + 1) × P k → ((k : ℕ) × (k < n) × P k) ⊎ P n
below_or_last P n found = below_more (λ k. P k → ((j : ℕ) × (j < n) × P j) ⊎ P n) n (λ k less is. inl (k, less, is)) inr found.0 found.1 found.2

-- one of the first elements is so: at the length of the list that is Any
abbrev pub AnyBelow : {X : Type 0} → ℕ → (X → Type 0) → List X → Type 0
AnyBelow {X} n P xs = (k : ℕ) × (x : X) × (k < n) × (slice_index_or xs k x ≡ x) × P x

-- so is one before the last of them, or the last
pub any_or_last : {X : Type 0} (P : X → Type 0) (xs : List X) (n : ℕ) (x : X) → n < length xs → slice_index_or xs n x ≡ x → AnyBelow (n + 1) P xs → AnyBelow n P xs ⊎ P x
any_or_last {X} P xs n x small there any =
    below_more (λ k. (y : X) → slice_index_or xs k y ≡ y → P y → AnyBelow n P xs ⊎ P x) n (λ k less y is p. inl (k, y, less, is, p))
    (λ y is p. inr (subst P (sym is ∙ get_or_default xs n y x small ∙ there) p)) any.0 any.2 any.1 any.3 any.4
