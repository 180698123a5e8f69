-- A set of numbers as the bits of a number, at each width.
use mir.Val.{bits}
use Rattle.pr_sets.proofs.Common.{◌≡◌, ◌≢◌, ◌⊎◌, inl, inr, ℕ, ◌-◌, ◌*◌, ◌/◌, ◌%◌, ◌^◌, ◌<◌, ◌≤◌, Bool, true, false, ◌==◌, ◌&&◌, ◌||◌, not, nat_lt, nat_le, min, refl, sym, ap, ◌∙◌, arith, bit_and, bit_at, bit_not, nat_tests, eqb_tells, leb_tells, bit_at_above, bit_at_and, bit_at_not, bit_at-zero, bit_at-lt, same_from_bits_below, Numbers}
use Rattle.std.proofs.Common.{bit_or, lt-ltb, le-ltb, ltb-true}
use Rattle.std.specs.Int.{Width}
use Rattle.std.specs.FinSet as set
use Rattle.std.proofs.lemmas.Nat.{pow_pos}
use Rattle.std.proofs.lemmas.Nat.Bits.{bit_at_set_same, bit_at_set_other, bit_at_clear_same, bit_at_clear_other, shr_and_one}
use Rattle.std.proofs.Math.Bool.{and-false, and-or_distrib_left}
use Rattle.pr_sets.specs.Kept.{numbers_where}
use Rattle.pr_sets.proofs.lemmas.Members.{same_numbers, contains-empty, contains-insert, contains-remove, contains-difference, contains-union, contains-numbers_where}
use Rattle.pr_sets.proofs.lemmas.WordBits.{has-or}

pub zero_from : (n : ℕ) → n < 2 → (n == 1) ≡ false → n ≡ 0
zero_from n few is = grind (arith, nat_tests)

module _ (w : Width) where
  abbrev pub placed : ℕ → Numbers
  placed b = numbers_where (bits w) (λ n. bit_at b n == 1)

  pub contains-placed : (b q : ℕ) → set.contains (placed b) q ≡ (nat_lt q (bits w) && (bit_at b q == 1))
  contains-placed b q = contains-numbers_where (bits w) (λ n. bit_at b n == 1) q

  pub contains-placed_below : (b q : ℕ) → q < bits w → set.contains (placed b) q ≡ (bit_at b q == 1)
  contains-placed_below b q small = contains-placed b q ∙ ap (λ l. l && (bit_at b q == 1)) (lt-ltb q (bits w) small)

  pub contains-placed_above : (b q : ℕ) → bits w ≤ q → set.contains (placed b) q ≡ false
  contains-placed_above b q large = contains-placed b q ∙ ap (λ l. l && (bit_at b q == 1)) (le-ltb q (bits w) large)

  pub contains-placed_clear : (b q : ℕ) → bit_at b q ≡ 0 → set.contains (placed b) q ≡ false
  contains-placed_clear b q is =
      contains-placed b q ∙ ap (λ n. nat_lt q (bits w) && (n == 1)) is ∙ and-false (nat_lt q (bits w))

  -- every bit of a number that fits is one of its places
  pub placed-has : (b q : ℕ) → b < 2 ^ bits w → (bit_at b q == 1) ≡ set.contains (placed b) q
  placed-has b q fits = at (leb_tells (bits w) q)
    where
      at : ((nat_le (bits w) q ≡ true) × (bits w ≤ q)) ⊎ ((nat_le (bits w) q ≡ false) × (q < bits w)) → (bit_at b q == 1) ≡ set.contains (placed b) q
      at (inl large) = ap (λ n. n == 1) (bit_at_above b (bits w) q fits large.1) ∙ sym (contains-placed_above b q large.1)
      at (inr small) = sym (contains-placed_below b q small.1)

  pub placed-tested : (b q : ℕ) → q < bits w → (bit_and (b / 2 ^ q) 1 == 1) ≡ set.contains (placed b) q
  placed-tested b q small = ap (λ n. n == 1) (shr_and_one b q) ∙ sym (contains-placed_below b q small)

  -- ---- one more, one less, and by another set

  pub placed-insert : (b n : ℕ) → n < bits w → placed (bit_or b (1 * 2 ^ n % 2 ^ bits w)) ≡ set.insert (placed b) n
  placed-insert b n small =
      same_numbers _ _ (λ q. contains-placed (bit_or b (1 * 2 ^ n % 2 ^ bits w)) q ∙ at q (eqb_tells q n)
      ∙ ap (λ c. q == n || c) (sym (contains-placed b q)) ∙ sym (contains-insert (placed b) n q))
    where
      at : (q : ℕ) → (((q == n) ≡ true) × (q ≡ n)) ⊎ (((q == n) ≡ false) × (q ≢ n))
          → (nat_lt q (bits w) && (bit_at (bit_or b (1 * 2 ^ n % 2 ^ bits w)) q == 1)) ≡ (q == n || (nat_lt q (bits w) && (bit_at b q == 1)))
      at q (inl same) = rw same.0 (rw same.1 (rw (lt-ltb n (bits w) small) (ap (λ m. m == 1) (bit_at_set_same w b n small))))
      at q (inr other) = rw other.0 (ap (λ m. nat_lt q (bits w) && (m == 1)) (bit_at_set_other w b n small q other.1))

  pub placed-remove : (b n : ℕ) → n < bits w → placed (bit_and b (bit_not w (1 * 2 ^ n % 2 ^ bits w))) ≡ set.remove (placed b) n
  placed-remove b n small =
      same_numbers _ _ (λ q. contains-placed (bit_and b (bit_not w (1 * 2 ^ n % 2 ^ bits w))) q ∙ at q (nat_lt q (bits w)) refl (eqb_tells q n)
      ∙ ap (λ c. not (q == n) && c) (sym (contains-placed b q)) ∙ sym (contains-remove (placed b) n q))
    where
      at : (q : ℕ) (l : Bool) → nat_lt q (bits w) ≡ l → (((q == n) ≡ true) × (q ≡ n)) ⊎ (((q == n) ≡ false) × (q ≢ n))
          → (l && (bit_at (bit_and b (bit_not w (1 * 2 ^ n % 2 ^ bits w))) q == 1)) ≡ (not (q == n) && (l && (bit_at b q == 1)))
      at q true inside (inl same) = rw same.0 (rw same.1 (ap (λ m. m == 1) (bit_at_clear_same w b n small)))
      at q true inside (inr other) = rw other.0 (ap (λ m. m == 1) (bit_at_clear_other w b n small q (ltb-true q (bits w) inside) other.1))
      at q false outside (inl same) = rw same.0 refl
      at q false outside (inr other) = rw other.0 refl

  pub placed-difference : (a b : ℕ) → b < 2 ^ bits w → placed (bit_and a (bit_not w b)) ≡ set.difference (placed a) (placed b)
  placed-difference a b fits =
      same_numbers _ _ (λ q. contains-placed (bit_and a (bit_not w b)) q ∙ at q (nat_lt q (bits w)) refl
      ∙ (λ i. sym (contains-placed a q) i && not (sym (contains-placed b q) i)) ∙ sym (contains-difference (placed a) (placed b) q))
    where
      one_only : (x y : ℕ) → x < 2 → y < 2 → (min x (1 - y) == 1) ≡ ((x == 1) && not (y == 1))
      one_only x y few also = grind (arith, nat_tests)

      at : (q : ℕ) (l : Bool) → nat_lt q (bits w) ≡ l → (l && (bit_at (bit_and a (bit_not w b)) q == 1)) ≡ ((l && (bit_at a q == 1)) && not (l && (bit_at b q == 1)))
      at q true inside =
          ap (λ m. m == 1) (bit_at_and a (bit_not w b) q ∙ ap (min (bit_at a q)) (bit_at_not w b q fits (ltb-true q (bits w) inside)))
          ∙ one_only (bit_at a q) (bit_at b q) (bit_at-lt a q) (bit_at-lt b q)
      at q false outside = refl

  pub placed-union : (a b : ℕ) → placed (bit_or a b) ≡ set.union (placed a) (placed b)
  placed-union a b =
      same_numbers _ _ (λ q. contains-placed (bit_or a b) q ∙ ap (λ t. nat_lt q (bits w) && t) (has-or a b q)
      ∙ and-or_distrib_left (nat_lt q (bits w)) (bit_at a q == 1) (bit_at b q == 1)
      ∙ (λ i. sym (contains-placed a q) i || sym (contains-placed b q) i) ∙ sym (contains-union (placed a) (placed b) q))

  -- ---- none at all

  pub placed-zero : placed 0 ≡ set.empty
  placed-zero = same_numbers _ _ (λ q. contains-placed_clear 0 q (bit_at-zero q) ∙ sym (contains-empty q))

  pub zero_from_empty : (b : ℕ) → b < 2 ^ bits w → placed b ≡ set.empty → b ≡ 0
  zero_from_empty b fits none =
      same_from_bits_below (bits w) b 0 fits (pow_pos (bits w)) (λ q small. zero_from (bit_at b q) (bit_at-lt b q)
      (sym (contains-placed_below b q small) ∙ ap (λ s. set.contains s q) none ∙ contains-empty q) ∙ sym (bit_at-zero q))
