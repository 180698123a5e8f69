-- The bits of a word, as the set of numbers that it stands for.
use Rattle.pr_sets.proofs.Common.{◌≡◌, ℕ, ◌-◌, ◌*◌, ◌%◌, ◌^◌, ◌<◌, ◌≤◌, true, false, ◌==◌, ◌&&◌, not, nat_le, ap, ◌∙◌, inl, inr, ◌⊎◌, arith, bit_and, w16, bit_at, trailing_zeros, nat_tests, leb_tells, bit_at-lt, bit_at-trailing_zeros, same_from_bits_below}
use Rattle.std.proofs.Math.Bool.{and_comm}
use Rattle.pr_sets.specs.declared.bit_set.BitSet.{BitSet}
use Rattle.pr_sets.specs.BitSets.{has, IsLeast}
use Rattle.pr_sets.proofs.lemmas.WordBits.{has-except, has-only}

-- ---- which numbers a word has

-- words of the same numbers have the same bits
pub same_bits : (v w : BitSet) → v.bits < 2 ^ 16 → w.bits < 2 ^ 16 → ((n : ℕ) → n < 16 → has v n ≡ has w n) → v.bits ≡ w.bits
same_bits v w v_fits w_fits same =
    same_from_bits_below 16 v.bits w.bits v_fits w_fits (λ n small. at (bit_at v.bits n) (bit_at w.bits n) (bit_at-lt v.bits n) (bit_at-lt w.bits n) (same n small))
  where
    at : (x y : ℕ) → x < 2 → y < 2 → (x == 1) ≡ (y == 1) → x ≡ y
    at x y one other both = grind (arith, nat_tests)

-- a word that is not 0 has a least number
pub least_there : (w : BitSet) → 0 < w.bits → w.bits < 2 ^ 16 → IsLeast w (trailing_zeros w16 w.bits)
least_there w some fits =
    let found = bit_at-trailing_zeros w16 w.bits some fits in
    record {
      there = ap (λ b. b == 1) found.1;
      least = λ m there. at m there (leb_tells (trailing_zeros w16 w.bits) m) found.2;
    }
  where
    at : (m : ℕ) → has w m ≡ true
        → ((nat_le (trailing_zeros w16 w.bits) m ≡ true) × (trailing_zeros w16 w.bits ≤ m)) ⊎ ((nat_le (trailing_zeros w16 w.bits) m ≡ false) × (m < trailing_zeros w16 w.bits))
        → ((i : ℕ) → i < trailing_zeros w16 w.bits → bit_at w.bits i ≡ 0) → trailing_zeros w16 w.bits ≤ m
    at m there (inl late) absent = late.1
    at m there (inr early) absent =
        let zero_there = absent m early.1 in grind (arith, nat_tests)

-- ---- bits of what is reckoned from words
pub has-without : (a k n : ℕ) → a < 2 ^ 16 → k < 16 → (bit_at (bit_and a (2 ^ 16 - 1 - 1 * 2 ^ k % 2 ^ 16)) n == 1) ≡ (not (n == k) && (bit_at a n == 1))
has-without a k n fits small =
    has-except w16 a (1 * 2 ^ k % 2 ^ 16) n fits one_fits ∙ ap (λ c. (bit_at a n == 1) && not c) (has-only w16 k n small) ∙ and_comm (bit_at a n == 1) (not (n == k))
  where
    one_fits : 1 * 2 ^ k % 2 ^ 16 < 2 ^ 16
    one_fits = omega arith
