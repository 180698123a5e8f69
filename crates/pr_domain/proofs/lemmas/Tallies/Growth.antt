-- Tallies that grow step by step.
use Rattle.pr_domain.proofs.Common.{◌≡◌, ℕ, ◌+◌, ◌<◌, true, ◌⊎◌, List, length, inl, inr, arith, Command, UnitState, Test, Item, View, Shows, Tally, has_tallied, Leaves, IsFound, Grows}
use Rattle.std.proofs.Common.{slice_index_or}
use Rattle.pr_regions.proofs.lemmas.Keeping.Additions.{AnyBelow, any_or_last}

-- found among these, and so among those
found_as : (v : View) (c : Command) (tests : List Test) (A B : UnitState → Type 0) (way : ℕ) (i : Item) (q : ℕ) → ((u : UnitState) → Shows v u → A u → B u)
    → IsFound v c tests A way i q → IsFound v c tests B way i q
found_as v c tests A B way i q also found =
    record { unit = found.unit; shown = found.shown; among = also found.unit found.shown found.among; leaves = found.leaves; pending = found.pending }

-- the same states by another name
pub grows_as : (v : View) (c : Command) (tests : List Test) (old new : Tally) (A B : UnitState → Type 0) → ((u : UnitState) → Shows v u → A u → B u) → ((u : UnitState) → Shows v u → B u → A u)
    → Grows v c tests old new A → Grows v c tests old new B
grows_as v c tests old new A B to from grows = record {
  kept = grows.kept;
  all = λ u way i shown among leaves. grows.all u way i shown (from u shown among) leaves;
  only = λ way i q has pending. at way i q (grows.only way i q has pending);
}
  where
    at : (way : ℕ) (i : Item) (q : ℕ) → (has_tallied old way i ≡ true) ⊎ IsFound v c tests A way i q → (has_tallied old way i ≡ true) ⊎ IsFound v c tests B way i q
    at way i q (inl before) = inl before
    at way i q (inr found) = inr (found_as v c tests A B way i q to found)

-- these states, and then those
pub grows_then : (v : View) (c : Command) (tests : List Test) (old mid new : Tally) (A B C : UnitState → Type 0)
    → ((u : UnitState) → Shows v u → A u → C u) → ((u : UnitState) → Shows v u → B u → C u) → ((u : UnitState) → Shows v u → C u → A u ⊎ B u)
    → Grows v c tests old mid A → Grows v c tests mid new B → Grows v c tests old new C
grows_then v c tests old mid new A B C from_a from_b either first second = record {
  kept = λ way i has. second.kept way i (first.kept way i has);
  all = λ u way i shown among leaves. all u way i shown leaves (either u shown among);
  only = λ way i q has pending. late way i q pending (second.only way i q has pending);
}
  where
    all : (u : UnitState) (way : ℕ) (i : Item) → Shows v u → Leaves v.scope c tests way u i → A u ⊎ B u → has_tallied new way i ≡ true
    all u way i shown leaves (inl a) = second.kept way i (first.all u way i shown a leaves)
    all u way i shown leaves (inr b) = second.all u way i shown b leaves

    early : (way : ℕ) (i : Item) (q : ℕ) → (has_tallied old way i ≡ true) ⊎ IsFound v c tests A way i q → (has_tallied old way i ≡ true) ⊎ IsFound v c tests C way i q
    early way i q (inl before) = inl before
    early way i q (inr found) = inr (found_as v c tests A C way i q from_a found)

    late : (way : ℕ) (i : Item) (q : ℕ) → v.pending q ≡ true → (has_tallied mid way i ≡ true) ⊎ IsFound v c tests B way i q → (has_tallied old way i ≡ true) ⊎ IsFound v c tests C way i q
    late way i q pending (inl before) = early way i q (first.only way i q before pending)
    late way i q pending (inr found) = inr (found_as v c tests B C way i q from_b found)

-- nothing yet, and nobody among them
pub grows_from_none : (v : View) (c : Command) (tests : List Test) (t : Tally) (A : UnitState → Type 0) → ((u : UnitState) → Shows v u → A u → ⊥) → Grows v c tests t t A
grows_from_none v c tests t A nobody = record {
  kept = λ way i has. has;
  all = λ u way i shown among leaves. absurd (nobody u shown among);
  only = λ way i q has pending. inl has;
}

-- those of one element, after those of the elements before it
pub grows_by_element : {X : Type 0} (v : View) (c : Command) (tests : List Test) (old mid new : Tally) (xs : List X) (IsOf : X → UnitState → Type 0) (n : ℕ) (x : X) → n < length xs → slice_index_or xs n x ≡ x
    → Grows v c tests old mid (λ u. AnyBelow n (λ y. IsOf y u) xs) → Grows v c tests mid new (IsOf x) → Grows v c tests old new (λ u. AnyBelow (n + 1) (λ y. IsOf y u) xs)
grows_by_element {X} v c tests old mid new xs IsOf n x small there =
    grows_then v c tests old mid new (λ u. AnyBelow n (λ y. IsOf y u) xs) (IsOf x) (λ u. AnyBelow (n + 1) (λ y. IsOf y u) xs)
    (λ u shown any. (any.0, any.1, (let below = any.2 in omega arith), any.3, any.4)) (λ u shown is. (n, x, omega arith, there, is))
    (λ u shown. any_or_last (λ y. IsOf y u) xs n x small there)
