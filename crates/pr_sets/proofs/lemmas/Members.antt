-- What sets of numbers contain, and that they are equal where they contain the same.
use Rattle.pr_sets.proofs.Common.{◌≡◌, ◌≢◌, ◌⊎◌, inl, inr, ℕ, ◌<◌, Bool, true, false, ◌==◌, ◌&&◌, ◌||◌, not, nat_lt, refl, sym, ap, ◌∙◌, arith, nat_tests, eqb_tells, Numbers, Has, Within}
use Rattle.std.proofs.Common.{zero, suc, if◌then◌else◌}
use Rattle.std.specs.Ordering.{nat_cmp}
use Rattle.std.specs.Cmp.{nat_cmp_total, unsigned_tied, both_ways}
use Rattle.std.specs.FinSet as set
use Rattle.std.specs.FinSet.{nat_cmp-IsAntisymmetric}
use Rattle.std.proofs.lemmas.Bool.{or_cases, eqb-true}
use Rattle.std.proofs.Math.Bool.{or-true}
use Rattle.pr_sets.specs.Numbers.{AllBelow}
use Rattle.pr_sets.specs.Kept.{numbers_where}

pub same_numbers : (s t : Numbers) → ((q : ℕ) → set.contains s q ≡ set.contains t q) → s ≡ t
same_numbers s t same = set.same_set nat_cmp_total nat_cmp-IsAntisymmetric s t same

pub same_from_within : (s t : Numbers) → Within s t → Within t s → s ≡ t
same_from_within s t there back = same_numbers s t (λ q. both_ways (set.contains s q) (set.contains t q) (there q) (back q))

pub contains-empty : (q : ℕ) → set.contains (set.empty {R = nat_cmp}) q ≡ false
contains-empty q = set.contains-empty nat_cmp q

pub contains-insert : (s : Numbers) (n q : ℕ) → set.contains (set.insert s n) q ≡ (q == n || set.contains s q)
contains-insert s n q = set.contains-insert nat_cmp_total s n q ∙ ap (λ b. b || set.contains s q) (unsigned_tied q n)

pub contains-remove : (s : Numbers) (n q : ℕ) → set.contains (set.remove s n) q ≡ (not (q == n) && set.contains s q)
contains-remove s n q = set.contains-remove nat_cmp_total s n q ∙ ap (λ b. not b && set.contains s q) (unsigned_tied q n)

pub contains-difference : (s t : Numbers) (q : ℕ) → set.contains (set.difference s t) q ≡ (set.contains s q && not (set.contains t q))
contains-difference s t q = set.contains-difference nat_cmp_total s t q

pub contains-union : (s t : Numbers) (q : ℕ) → set.contains (set.union s t) q ≡ (set.contains s q || set.contains t q)
contains-union s t q = set.contains-union nat_cmp_total s t q

-- for the crates above: what a set of numbers contains, by what it was made of
pub ruleset reads = (contains-empty, contains-insert, contains-union)

-- ---- by members

-- a member of the union is one of either
pub of_either : (s t : Numbers) (q : ℕ) → Has (set.union s t) q → Has s q ⊎ Has t q
of_either s t q there =
    or_cases (set.contains s q) (set.contains t q) (sym (contains-union s t q) ∙ there)

pub Has-union_left : (s t : Numbers) (q : ℕ) → Has s q → Has (set.union s t) q
Has-union_left s t q there = contains-union s t q ∙ ap (λ b. b || set.contains t q) there

pub Has-union_right : (s t : Numbers) (q : ℕ) → Has t q → Has (set.union s t) q
Has-union_right s t q there =
    contains-union s t q ∙ ap (λ b. set.contains s q || b) there ∙ or-true (set.contains s q)

-- a member after an insert is the new one, or was one
pub of_insert : (s : Numbers) (n q : ℕ) → Has (set.insert s n) q → (q ≡ n) ⊎ Has s q
of_insert s n q there =
    at (eqb_tells q n)
  where
    at : (((q == n) ≡ true) × (q ≡ n)) ⊎ (((q == n) ≡ false) × (q ≢ n)) → (q ≡ n) ⊎ Has s q
    at (inl same) = inl same.1
    at (inr other) = inr (ap (λ b. b || set.contains s q) (sym other.0) ∙ sym (contains-insert s n q) ∙ there)

pub Has-insert_same : (s : Numbers) (n : ℕ) → Has (set.insert s n) n
Has-insert_same s n = let test : (n == n) ≡ true = grind (arith, nat_tests) in contains-insert s n n ∙ ap (λ b. b || set.contains s n) test

pub Has-insert_other : (s : Numbers) (n q : ℕ) → Has s q → Has (set.insert s n) q
Has-insert_other s n q there =
    contains-insert s n q ∙ ap (λ b. q == n || b) there ∙ or-true (q == n)

-- ---- below a bound

pub AllBelow-empty : (size : ℕ) → AllBelow size set.empty
AllBelow-empty size q there = let none = contains-empty q in cc

pub AllBelow-insert : (size : ℕ) (s : Numbers) (n : ℕ) → n < size → AllBelow size s → AllBelow size (set.insert s n)
AllBelow-insert size s n small below q there =
    elim (of_insert s n q there) [
      | inl same ↦ omega arith
      | inr was ↦ below q was
    ]

pub AllBelow-union : (size : ℕ) (s t : Numbers) → AllBelow size s → AllBelow size t → AllBelow size (set.union s t)
AllBelow-union size s t below also q there =
    elim (of_either s t q there) [
      | inl one ↦ below q one
      | inr other ↦ also q other
    ]

-- ---- the numbers that pass a test

pub lt-zero : (q : ℕ) → nat_lt q 0 ≡ false
lt-zero q = grind (arith, nat_tests)

pub lt-suc : (q n : ℕ) → nat_lt q (suc n) ≡ (q == n || nat_lt q n)
lt-suc q n = grind (arith, nat_tests)

more_true : (e l x : Bool) → (e ≡ true → x ≡ true) → (e || (l && x)) ≡ ((e || l) && x)
more_true true l x h = sym (h refl)
more_true false l x h = refl

more_false : (e l x : Bool) → (e ≡ true → x ≡ false) → (l && x) ≡ ((e || l) && x)
more_false true true x h = refl
more_false true false x h = sym (h refl)
more_false false l x h = refl

pub contains-numbers_where : (n : ℕ) (test : ℕ → Bool) (q : ℕ) → set.contains (numbers_where n test) q ≡ (nat_lt q n && test q)
unfolding numbers_where
contains-numbers_where zero test q = contains-empty q ∙ ap (λ b. b && test q) (sym (lt-zero q))
contains-numbers_where (suc n) test q =
    elim (test n) as (λ b. test n ≡ b → set.contains (if b then set.insert (numbers_where n test) n else numbers_where n test) q ≡ (nat_lt q (suc n) && test q)) [
      | true ↦ λ is. contains-insert (numbers_where n test) n q ∙ ap (λ b. q == n || b) (contains-numbers_where n test q)
          ∙ more_true (q == n) (nat_lt q n) (test q) (λ e. ap test (eqb-true q n e) ∙ is) ∙ ap (λ b. b && test q) (sym (lt-suc q n))
      | false ↦ λ is. contains-numbers_where n test q
          ∙ more_false (q == n) (nat_lt q n) (test q) (λ e. ap test (eqb-true q n e) ∙ is) ∙ ap (λ b. b && test q) (sym (lt-suc q n))
    ] refl
