-- A set of numbers as the bits of a word.
use Rattle.pr_sets.proofs.Common.{◌≡◌, ℕ, ◌+◌, ◌-◌, ◌/◌, ◌%◌, ◌^◌, ◌<◌, ◌≤◌, Bool, true, false, ◌==◌, nat_lt, min, refl, sym, ap, ◌∙◌, arith, bit_and, w128, bit_at, bit_not, trailing_zeros, nat_tests, bit_at_and, bit_at_not, bit_at-zero, bit_at-lt, bit_at_above, bit_at-trailing_zeros, same_from_bits_below, Has, Within, numbers_of_bits}
use Rattle.std.proofs.Common.{lit<}
use Rattle.std.proofs.lemmas.Bool.{and_parts, ltb-true}
use Rattle.std.proofs.lemmas.Nat.{pow-add}
use Rattle.std.proofs.Math.Nat.{div-div-eq-div-mul}
use Rattle.pr_sets.specs.Numbers.{IsNext, HasNoneFrom}
use Rattle.pr_sets.proofs.lemmas.BitPlaces.{zero_from, contains-placed, contains-placed_below, contains-placed_clear}

-- ---- one place and one bit

one_from : (n : ℕ) → (n == 1) ≡ true → n ≡ 1
one_from n is = grind (arith, nat_tests)

is_small : (bits q : ℕ) → Has (numbers_of_bits bits) q → q < 128
is_small bits q there = ltb-true q 128 (and_parts (nat_lt q 128) (bit_at bits q == 1) (sym (contains-placed w128 bits q) ∙ there)).0

bit_of : (bits q : ℕ) → Has (numbers_of_bits bits) q → bit_at bits q ≡ 1
bit_of bits q there = one_from (bit_at bits q) (and_parts (nat_lt q 128) (bit_at bits q == 1) (sym (contains-placed w128 bits q) ∙ there)).1

has_bit : (bits q : ℕ) → q < 128 → bit_at bits q ≡ 1 → Has (numbers_of_bits bits) q
has_bit bits q small is = contains-placed_below w128 bits q small ∙ ap (λ n. n == 1) is

-- ---- inclusion

-- the bits of a that b lacks, one by one
bit_left : (a b q : ℕ) → b < 2 ^ 128 → q < 128 → bit_at (bit_and a (bit_not w128 b)) q ≡ min (bit_at a q) (1 - bit_at b q)
bit_left a b q fits small = bit_at_and a (bit_not w128 b) q ∙ ap (min (bit_at a q)) (bit_at_not w128 b q fits small)

pub within_from_none_left : (a b : ℕ) → b < 2 ^ 128 → bit_and a (bit_not w128 b) ≡ 0 → Within (numbers_of_bits a) (numbers_of_bits b)
within_from_none_left a b fits none q there =
    has_bit b q (is_small a q there) (both (bit_at a q) (bit_at b q) (bit_of a q there) (bit_at-lt b q)
    (sym (bit_left a b q fits (is_small a q there)) ∙ ap (λ m. bit_at m q) none ∙ bit_at-zero q))
  where
    both : (x y : ℕ) → x ≡ 1 → y < 2 → min x (1 - y) ≡ 0 → y ≡ 1
    both x y one few left = omega arith

pub none_left_from_within : (a b : ℕ) → b < 2 ^ 128 → bit_and a (bit_not w128 b) < 2 ^ 128 → Within (numbers_of_bits a) (numbers_of_bits b)
    → bit_and a (bit_not w128 b) ≡ 0
none_left_from_within a b fits left_fits within =
    same_from_bits_below 128 _ 0 left_fits (lit< tt) (λ q small. bit_left a b q fits small ∙ at q small (bit_at a q == 1) refl ∙ sym (bit_at-zero q))
  where
    both : (x y : ℕ) → y ≡ 1 → min x (1 - y) ≡ 0
    both x y one = omega arith

    neither : (x y : ℕ) → x ≡ 0 → min x (1 - y) ≡ 0
    neither x y none = omega arith

    at : (q : ℕ) → q < 128 → (t : Bool) → (bit_at a q == 1) ≡ t → min (bit_at a q) (1 - bit_at b q) ≡ 0
    at q small true is = both (bit_at a q) (bit_at b q) (bit_of b q (within q (contains-placed_below w128 a q small ∙ is)))
    at q small false is = neither (bit_at a q) (bit_at b q) (zero_from (bit_at a q) (bit_at-lt a q) is)

-- ---- the least from a number on

-- the bits after a shift
bit_at_shifted : (bits from i : ℕ) → bit_at (bits / 2 ^ from) i ≡ bit_at bits (from + i)
bit_at_shifted bits from i = ap (λ n. n % 2) (div-div-eq-div-mul bits (2 ^ from) (2 ^ i) ∙ ap (λ n. bits / n) (sym (pow-add 2 from i)))

-- the same by the place before the shift
bit_from : (bits from m : ℕ) → from ≤ m → bit_at bits m ≡ bit_at (bits / 2 ^ from) (m - from)
bit_from bits from m late = let is : m ≡ from + (m - from) = omega arith in ap (bit_at bits) is ∙ sym (bit_at_shifted bits from (m - from))

pub none_from_zero : (bits from : ℕ) → bits / 2 ^ from ≡ 0 → HasNoneFrom (numbers_of_bits bits) from
none_from_zero bits from rest m late =
    contains-placed_clear w128 bits m (bit_from bits from m late ∙ ap (λ n. bit_at n (m - from)) rest ∙ bit_at-zero (m - from))

-- a word has no bit from 128 on
place_of_bit : (bits q : ℕ) → bits < 2 ^ 128 → bit_at bits q ≡ 1 → q < 128
place_of_bit bits q fits one =
    at (nat_lt q 128) refl
  where
    at : (t : Bool) → nat_lt q 128 ≡ t → q < 128
    at true is = ltb-true q 128 is
    at false is =
        let above : 128 ≤ q = grind (arith, nat_tests) in
        let clear = bit_at_above bits 128 q fits above in
        absurd (omega arith)

module _ (bits from rest : ℕ) (fits : bits < 2 ^ 128) (is : rest ≡ bits / 2 ^ from) (some : 0 < rest) (rest_fits : rest < 2 ^ 128) where
  zeros : ℕ
  zeros = trailing_zeros w128 rest

  known : (trailing_zeros w128 rest < 128) × (bit_at rest (trailing_zeros w128 rest) ≡ 1) × ((i : ℕ) → i < trailing_zeros w128 rest → bit_at rest i ≡ 0)
  known = bit_at-trailing_zeros w128 rest some rest_fits

  first_bit : bit_at bits (from + trailing_zeros w128 rest) ≡ 1
  first_bit = sym (bit_at_shifted bits from (trailing_zeros w128 rest)) ∙ ap (λ n. bit_at n (trailing_zeros w128 rest)) (sym is) ∙ known.1

  no_bit_before : (m : ℕ) → from ≤ m → bit_at bits m ≡ 1 → from + trailing_zeros w128 rest ≤ m
  no_bit_before m late one =
      at (nat_lt (m - from) (trailing_zeros w128 rest)) refl
    where
      at : (t : Bool) → nat_lt (m - from) (trailing_zeros w128 rest) ≡ t → from + trailing_zeros w128 rest ≤ m
      at true early =
          let small : m - from < trailing_zeros w128 rest = ltb-true _ _ early in
          let clear = bit_from bits from m late ∙ ap (λ n. bit_at n (m - from)) (sym is) ∙ known.2 (m - from) small in
          absurd (omega arith)
      at false early = grind (arith, nat_tests)

  pub next_by_zeros : IsNext (numbers_of_bits bits) from (from + trailing_zeros w128 rest)
  next_by_zeros = record {
    late = omega arith;
    there = has_bit bits _ (place_of_bit bits _ fits first_bit) first_bit;
    least = λ m late has. no_bit_before m late (bit_of bits m has);
  }
