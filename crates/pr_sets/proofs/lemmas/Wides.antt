-- The bits of a wide word, as the set of numbers that it stands for.
use Rattle.pr_sets.proofs.Common.{◌≡◌, ℕ, ◌+◌, ◌-◌, ◌*◌, ◌/◌, ◌%◌, ◌^◌, ◌<◌, Bool, true, false, ◌==◌, refl, sym, ap, ◌∙◌, arith, w128, trailing_zeros, bit_at, bit_at-trailing_zeros, bit_at-zero, bit_at-lt, has_wide}
use Rattle.std.proofs.lemmas.Nat.Bits.{bit_at_cat_high, same_from_bits}
use Rattle.pr_sets.specs.declared.wide.Wide.{Wide}
use Rattle.pr_sets.specs.BitSets.{bit_set_size}
use Rattle.pr_sets.proofs.lemmas.BitPlaces.{zero_from}

-- a wide word that is not 0 has a number
pub some_there : (w : Wide) → 0 < w.bits → w.bits < 2 ^ 128 → has_wide w (trailing_zeros w128 w.bits) ≡ true
some_there w some fits = ap (λ b. b == 1) (bit_at-trailing_zeros w128 w.bits some fits).1

-- a word that has numbers of a bit set alone fits into one
pub fits_few : (b : ℕ) → ((n : ℕ) → (bit_at b n == 1) ≡ true → n < bit_set_size) → b < 2 ^ 16
fits_few b few = omega (arith, same_from_bits (b / 2 ^ 16) 0 above)
  where
    split : b ≡ b / 2 ^ 16 * 2 ^ 16 + b % 2 ^ 16
    split = omega arith

    rest_fits : b % 2 ^ 16 < 2 ^ 16
    rest_fits = omega arith

    back : (j : ℕ) → j + 16 - 16 ≡ j
    back j = omega arith

    moved : (j : ℕ) → bit_at b (j + 16) ≡ bit_at (b / 2 ^ 16) j
    moved j =
        ap (λ c. bit_at c (j + 16)) split ∙ bit_at_cat_high (b / 2 ^ 16) 16 (b % 2 ^ 16) (j + 16) rest_fits (omega arith)
        ∙ ap (bit_at (b / 2 ^ 16)) (back j)

    clear : (j : ℕ) (is : Bool) → (bit_at b (j + 16) == 1) ≡ is → bit_at b (j + 16) ≡ 0
    clear j true there = let small : j + 16 < 16 = few (j + 16) there in absurd (omega arith)
    clear j false none = zero_from (bit_at b (j + 16)) (bit_at-lt b (j + 16)) none

    above : (j : ℕ) → bit_at (b / 2 ^ 16) j ≡ bit_at 0 j
    above j = sym (moved j) ∙ clear j (bit_at b (j + 16) == 1) refl ∙ sym (bit_at-zero j)
