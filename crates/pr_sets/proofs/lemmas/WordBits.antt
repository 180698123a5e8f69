-- Bits of what is reckoned from words of any width.
use Rattle.pr_sets.proofs.Common.{◌≡◌, ◌≢◌, ℕ, ◌-◌, ◌*◌, ◌/◌, ◌%◌, ◌^◌, ◌<◌, ◌≤◌, true, false, ◌==◌, ◌&&◌, ◌||◌, not, nat_lt, nat_le, min, refl, sym, ap, ◌∙◌, inl, inr, ◌⊎◌, arith, bit_and, bit_at, nat_tests, eqb_tells, leb_tells, bit_at_and, bit_at_not, bit_at-zero, bit_at-lt, bit_at_above}
use Rattle.std.proofs.Common.{max, bit_or}
use mir.Val.{bits}
use Rattle.std.specs.Int.{Width}
use Rattle.std.proofs.lemmas.Nat.Bits.{bit_at_set_same, bit_at_set_other, bit_at_or, bit_at_ones, bit_at_ones_above, ones_shr}
use Rattle.std.proofs.Math.Bool.{or_comm}

pub has-and : (a b n : ℕ) → (bit_at (bit_and a b) n == 1) ≡ ((bit_at a n == 1) && (bit_at b n == 1))
has-and a b n =
    ap (λ x. x == 1) (bit_at_and a b n) ∙ at (bit_at a n) (bit_at b n) (bit_at-lt a n) (bit_at-lt b n)
  where
    at : (x y : ℕ) → x < 2 → y < 2 → (min x y == 1) ≡ ((x == 1) && (y == 1))
    at x y one other = grind (arith, nat_tests)

pub has-or : (a b n : ℕ) → (bit_at (bit_or a b) n == 1) ≡ ((bit_at a n == 1) || (bit_at b n == 1))
has-or a b n =
    ap (λ x. x == 1) (bit_at_or a b n) ∙ at (bit_at a n) (bit_at b n) (bit_at-lt a n) (bit_at-lt b n)
  where
    at : (x y : ℕ) → x < 2 → y < 2 → (max x y == 1) ≡ ((x == 1) || (y == 1))
    at x y one other = grind (arith, nat_tests)

pub has-except : (w : Width) (a b n : ℕ) → a < 2 ^ bits w → b < 2 ^ bits w → (bit_at (bit_and a (2 ^ bits w - 1 - b)) n == 1) ≡ ((bit_at a n == 1) && not (bit_at b n == 1))
has-except w a b n a_fits b_fits =
    has-and a (2 ^ bits w - 1 - b) n ∙ at (leb_tells (bits w) n)
  where
    flipped : (y : ℕ) → y < 2 → (1 - y == 1) ≡ not (y == 1)
    flipped y one = grind (arith, nat_tests)

    at : ((nat_le (bits w) n ≡ true) × (bits w ≤ n)) ⊎ ((nat_le (bits w) n ≡ false) × (n < bits w))
        → ((bit_at a n == 1) && (bit_at (2 ^ bits w - 1 - b) n == 1)) ≡ ((bit_at a n == 1) && not (bit_at b n == 1))
    at (inl large) = rw (bit_at_above a (bits w) n a_fits large.1) refl
    at (inr small) =
        ap (λ c. (bit_at a n == 1) && c) (ap (λ x. x == 1) (bit_at_not w b n b_fits small.1) ∙ flipped (bit_at b n) (bit_at-lt b n))

pub has-only : (w : Width) (k n : ℕ) → k < bits w → (bit_at (1 * 2 ^ k % 2 ^ bits w) n == 1) ≡ (n == k)
has-only w k n small =
    ap (λ x. x == 1) (sym beside_none) ∙ at (eqb_tells n k)
  where
    or_zero : (x : ℕ) → max 0 x ≡ x
    or_zero x = omega arith

    beside_none : bit_at (bit_or 0 (1 * 2 ^ k % 2 ^ bits w)) n ≡ bit_at (1 * 2 ^ k % 2 ^ bits w) n
    beside_none =
        bit_at_or 0 (1 * 2 ^ k % 2 ^ bits w) n ∙ ap (λ x. max x (bit_at (1 * 2 ^ k % 2 ^ bits w) n)) (bit_at-zero n) ∙ or_zero (bit_at (1 * 2 ^ k % 2 ^ bits w) n)

    at : (((n == k) ≡ true) × (n ≡ k)) ⊎ (((n == k) ≡ false) × (n ≢ k)) → (bit_at (bit_or 0 (1 * 2 ^ k % 2 ^ bits w)) n == 1) ≡ (n == k)
    at (inl same) = rw same.0 (rw same.1 (ap (λ x. x == 1) (bit_at_set_same w 0 k small)))
    at (inr other) =
        rw other.0 (ap (λ x. x == 1) (bit_at_set_other w 0 k small n other.1 ∙ bit_at-zero n))

pub has-with : (w : Width) (a k n : ℕ) → k < bits w → (bit_at (bit_or a (1 * 2 ^ k % 2 ^ bits w)) n == 1) ≡ ((n == k) || (bit_at a n == 1))
has-with w a k n small =
    has-or a (1 * 2 ^ k % 2 ^ bits w) n ∙ ap (λ c. (bit_at a n == 1) || c) (has-only w k n small) ∙ or_comm (bit_at a n == 1) (n == k)

pub has-below : (w : Width) (size n : ℕ) → size ≤ bits w → (bit_at ((2 ^ bits w - 1) / 2 ^ (bits w - size)) n == 1) ≡ nat_lt n size
has-below w size n small =
    ap (λ b. bit_at b n == 1) (ones_shr (bits w) (bits w - size) few ∙ ap (λ k. 2 ^ k - 1) back) ∙ at (leb_tells size n)
  where
    few : bits w - size ≤ bits w
    few = omega arith

    back : bits w - (bits w - size) ≡ size
    back = omega arith

    at : ((nat_le size n ≡ true) × (size ≤ n)) ⊎ ((nat_le size n ≡ false) × (n < size)) → (bit_at (2 ^ size - 1) n == 1) ≡ nat_lt n size
    at (inl above) =
        let late : nat_lt n size ≡ false = grind (arith, nat_tests) in
        rw late (ap (λ x. x == 1) (bit_at_ones_above size n above.1))
    at (inr inside) =
        let early : nat_lt n size ≡ true = grind (arith, nat_tests) in
        rw early (ap (λ x. x == 1) (bit_at_ones size n inside.1))
