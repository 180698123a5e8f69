-- Tests that say of the numbers below a bound what another test says, and no of the rest.
use Rattle.pr_sets.proofs.Common.{◌≡◌, ◌≢◌, ◌⊎◌, ℕ, ◌+◌, Bool, true, false, ◌==◌, ◌&&◌, ◌||◌, nat_lt, sym, ap, ◌∙◌, inl, inr, arith, nat_tests, eqb_tells, Numbers}
use Rattle.std.specs.FinSet as set
use Rattle.std.proofs.lemmas.Bool.{lt-ltb, le-ltb}
use Rattle.std.proofs.Math.Bool.{and-false}
use Rattle.pr_sets.proofs.lemmas.Members.{contains-insert}

-- q says what p says of each number below n, and no of the others
abbrev pub IsFront : (ℕ → Bool) → (ℕ → Bool) → ℕ → Type 0
IsFront q p n = (m : ℕ) → q m ≡ (p m && nat_lt m n)

pub front_none : (q p : ℕ → Bool) → ((m : ℕ) → q m ≡ false) → IsFront q p 0
front_none q p none m = none m ∙ sym (ap (λ b. p m && b) (le-ltb m 0 (omega arith)) ∙ and-false (p m))

further : (m n : ℕ) → m ≢ n → nat_lt m n ≡ nat_lt m (n + 1)
further m n differs = grind (arith, nat_tests)

pub front_more : (q r p : ℕ → Bool) (n : ℕ) → IsFront q p n → p n ≡ true → ((m : ℕ) → r m ≡ (m == n || q m)) → IsFront r p (n + 1)
front_more q r p n front says is m = is m ∙ at (eqb_tells m n)
  where
    at : (((m == n) ≡ true) × (m ≡ n)) ⊎ (((m == n) ≡ false) × (m ≢ n)) → (m == n || q m) ≡ (p m && nat_lt m (n + 1))
    at (inl same) =
        ap (λ b. b || q m) same.0 ∙ sym (ap (λ b. b && nat_lt m (n + 1)) (ap p same.1 ∙ says) ∙ lt-ltb m (n + 1) (omega (arith, same.1)))
    at (inr other) =
        ap (λ b. b || q m) other.0 ∙ front m ∙ ap (λ b. p m && b) (further m n other.1)

pub front_skips : (q p : ℕ → Bool) (n : ℕ) → IsFront q p n → p n ≡ false → IsFront q p (n + 1)
front_skips q p n front denies m = front m ∙ at (eqb_tells m n)
  where
    at : (((m == n) ≡ true) × (m ≡ n)) ⊎ (((m == n) ≡ false) × (m ≢ n)) → (p m && nat_lt m n) ≡ (p m && nat_lt m (n + 1))
    at (inl same) =
        let none = ap p same.1 ∙ denies in
        ap (λ b. b && nat_lt m n) none ∙ sym (ap (λ b. b && nat_lt m (n + 1)) none)
    at (inr other) = ap (λ b. p m && b) (further m n other.1)

-- ---- sets of the numbers of which a test says yes

pub added : (s t : Numbers) (p : ℕ → Bool) (n : ℕ) → IsFront (set.contains s) p n → p n ≡ true → t ≡ set.insert s n → IsFront (set.contains t) p (n + 1)
added s t p n front there is =
    front_more (set.contains s) (set.contains t) p n front there (λ m. ap (λ u. set.contains u m) is ∙ contains-insert s n m)
