-- A set of codes as the bits of a number.
use Rattle.std.proofs.Common.{◌≡◌, ◌≢◌, ℕ, zero, suc, ◌-◌, ◌*◌, ◌%◌, ◌^◌, ◌<◌, Bool, true, false, ◌==◌, ◌&&◌, ◌||◌, ◌↔◌, if◌then◌else◌, min, max, not, w8, refl, sym, ap, ◌∙◌, inl, inr, ◌⊎◌, get_or, lit<, arith, bit_or, bit_and}
use Rattle.std.specs.Int.{bit_at, bit_not}
use Rattle.std.specs.Ordering.{nat_cmp, eq_by_cmp}
use Rattle.std.specs.Cmp.{nat_cmp_total, unsigned_tied, both_ways}
use Rattle.std.specs.FinSet as set
use Rattle.std.specs.FinSet.{nat_cmp-IsAntisymmetric}
use Rattle.std.specs.List.{list_any}
use Rattle.std.proofs.lemmas.Bool.{and_parts}
use Rattle.std.proofs.lemmas.Bool.Decides.{nat_tests, eqb_tells}
use Rattle.std.proofs.lemmas.Nat.{or_lt, and_le_l, and_le_r}
use Rattle.std.proofs.lemmas.Nat.Bits.{bit_at_and, bit_at_or, bit_at-pow_same, bit_at-pow_other, bit_at_clear_same, bit_at_clear_other, bit_at-zero, bit_at-lt, and_pow, same_from_bits_below}
use Rattle.bitflags.specs.Sets.{without}
use Rattle.std.proofs.Math.Bool.{and-false, or-false}
use Rattle.pr_attention.specs.declared.attention.Attention.{Attention}
use Rattle.pr_attention.specs.declared.attention.Attention.TheVariants.{PowerOn, ReservationsPreempted, ReservationsReleased, RegistrationsPreempted}
use Rattle.pr_attention.specs.Attentions.{attentions, is_attention, code_of}
use Rattle.pr_attention.specs.CodeSets.{no_code, AreAttentions}
use Rattle.pr_sets.specs.Numbers.{Within}
use Rattle.pr_attention.specs.SameCodes.{is_same, is_same-tells}
use Rattle.pr_attention.specs.Flagged.{place_of, codes_of}
use Rattle.pr_attention.proofs.lemmas.Sets.{same_codes, contains-no_code, contains-insert_code, contains-remove_code, is_attention-code_of}

-- the bit of an attention, as a number
abbrev pub flag_of : Attention → ℕ
flag_of a = 2 ^ place_of (code_of a)

pub contains-codes_of : (bits q : ℕ) → set.contains (codes_of bits) q ≡ (is_attention q && (bit_at bits (place_of q) == 1))
unfolding codes_of
contains-codes_of bits q =
    set.contains-retain (set.from_list attentions) (λ code. bit_at bits (place_of code) == 1) q (λ x tie. ap (λ code. bit_at bits (place_of code) == 1) (sym (nat_cmp-IsAntisymmetric q x tie)))
    ∙ ap (λ b. b && (bit_at bits (place_of q) == 1)) (set.contains-from_list nat_cmp_total attentions q ∙ alike)
  where
    alike : list_any (eq_by_cmp nat_cmp q) attentions ≡ is_attention q
    alike = λ i. unsigned_tied q 0x2900 i || (unsigned_tied q 0x2a03 i || (unsigned_tied q 0x2a04 i || (unsigned_tied q 0x2a05 i || false)))

-- ---- places

-- each code is at its place
at_place : (q : ℕ) → is_attention q ≡ true → get_or attentions (place_of q) 0 ≡ q
at_place q is = grind (arith, nat_tests)

few_places : (q : ℕ) → place_of q < 4
few_places q = grind (arith, nat_tests)

other_place : (q code : ℕ) → is_attention q ≡ true → is_attention code ≡ true → q ≢ code → place_of q ≢ place_of code
other_place q code is also other same = other (sym (at_place q is) ∙ ap (λ k. get_or attentions k 0) same ∙ at_place code also)

-- ---- one flag

pub flag_of-lt : (a : Attention) → flag_of a < 16
flag_of-lt PowerOn = lit< tt
flag_of-lt ReservationsPreempted = lit< tt
flag_of-lt ReservationsReleased = lit< tt
flag_of-lt RegistrationsPreempted = lit< tt

pub or_flag-lt : (bits : ℕ) (a : Attention) → bits < 16 → bit_or bits (flag_of a) < 16
or_flag-lt bits a few = or_lt 4 bits (flag_of a) few (flag_of-lt a)

pub without_flag-lt : (bits : ℕ) (a : Attention) → bits < 16 → without 8 bits (flag_of a) < 16
without_flag-lt bits a few = omega (arith, and_le_l bits (2 ^ 8 - 1 - flag_of a))

-- the bits of all but this flag
mask : (a : Attention) → 2 ^ 8 - 1 - flag_of a ≡ bit_not w8 (1 * 2 ^ place_of (code_of a) % 2 ^ 8)
mask PowerOn = refl
mask ReservationsPreempted = refl
mask ReservationsReleased = refl
mask RegistrationsPreempted = refl

pub has_flag : (bits : ℕ) (a : Attention) → (bit_and bits (flag_of a) == flag_of a) ≡ set.contains (codes_of bits) (code_of a)
has_flag bits a =
    ap (λ n. n == flag_of a) (and_pow bits (place_of (code_of a))) ∙ at a (bit_at bits (place_of (code_of a)))
    ∙ sym (contains-codes_of bits (code_of a) ∙ ap (λ b. b && (bit_at bits (place_of (code_of a)) == 1)) (is_attention-code_of a))
  where
    at : (a : Attention) (bit : ℕ) → (bit * flag_of a == flag_of a) ≡ (bit == 1)
    at PowerOn bit = grind (arith, nat_tests)
    at ReservationsPreempted bit = grind (arith, nat_tests)
    at ReservationsReleased bit = grind (arith, nat_tests)
    at RegistrationsPreempted bit = grind (arith, nat_tests)

-- ---- the sets after a change

pub codes_of-or_flag : (bits : ℕ) (a : Attention) → codes_of (bit_or bits (flag_of a)) ≡ set.insert (codes_of bits) (code_of a)
codes_of-or_flag bits a =
    same_codes _ _ (λ q. contains-codes_of (bit_or bits (flag_of a)) q ∙ at q (is_attention q) refl (eqb_tells q (code_of a))
    ∙ ap (λ b. q == code_of a || b) (sym (contains-codes_of bits q)) ∙ sym (contains-insert_code (codes_of bits) (code_of a) q))
  where
    bit : (q : ℕ) → ℕ
    bit q = bit_at (bit_or bits (flag_of a)) (place_of q)

    at : (q : ℕ) (known : Bool) → is_attention q ≡ known → (((q == code_of a) ≡ true) × (q ≡ code_of a)) ⊎ (((q == code_of a) ≡ false) × (q ≢ code_of a))
        → (is_attention q && (bit_at (bit_or bits (flag_of a)) (place_of q) == 1)) ≡ (q == code_of a || (is_attention q && (bit_at bits (place_of q) == 1)))
    at q known is (inl same) =
        let here : place_of q ≡ place_of (code_of a) = ap place_of same.1 in
        let set_bit = bit_at-pow_same (place_of (code_of a)) in
        let few = bit_at-lt bits (place_of (code_of a)) in
        let there : bit_at (bit_or bits (flag_of a)) (place_of (code_of a)) ≡ 1 = bit_at_or bits (flag_of a) (place_of (code_of a)) ∙ omega arith in
        let attention : is_attention q ≡ true = ap is_attention same.1 ∙ is_attention-code_of a in
        rw same.0 (rw attention (rw here (ap (λ n. n == 1) there)))
    at q false is (inr other) = rw other.0 (rw is refl)
    at q true is (inr other) =
        let clear = bit_at-pow_other (place_of (code_of a)) (place_of q) (other_place q (code_of a) is (is_attention-code_of a) other.1) in
        let kept : bit_at (bit_or bits (flag_of a)) (place_of q) ≡ bit_at bits (place_of q) = bit_at_or bits (flag_of a) (place_of q) ∙ omega arith in
        rw other.0 (rw kept refl)

pub codes_of-without_flag : (bits : ℕ) (a : Attention) → codes_of (without 8 bits (flag_of a)) ≡ set.remove (codes_of bits) (code_of a)
codes_of-without_flag bits a =
    ap (λ m. codes_of (bit_and bits m)) (mask a)
    ∙ same_codes _ _ (λ q. contains-codes_of left q ∙ at q (is_attention q) refl (eqb_tells q (code_of a))
    ∙ ap (λ b. not (q == code_of a) && b) (sym (contains-codes_of bits q)) ∙ sym (contains-remove_code (codes_of bits) (code_of a) q))
  where
    left : ℕ
    left = bit_and bits (bit_not w8 (1 * 2 ^ place_of (code_of a) % 2 ^ 8))

    few : place_of (code_of a) < 8
    few = omega (arith, few_places (code_of a))

    at : (q : ℕ) (known : Bool) → is_attention q ≡ known → (((q == code_of a) ≡ true) × (q ≡ code_of a)) ⊎ (((q == code_of a) ≡ false) × (q ≢ code_of a))
        → (is_attention q && (bit_at left (place_of q) == 1)) ≡ (not (q == code_of a) && (is_attention q && (bit_at bits (place_of q) == 1)))
    at q known is (inl same) =
        let here : place_of q ≡ place_of (code_of a) = ap place_of same.1 in
        let attention : is_attention q ≡ true = ap is_attention same.1 ∙ is_attention-code_of a in
        rw same.0 (rw attention (rw here (ap (λ n. n == 1) (bit_at_clear_same w8 bits (place_of (code_of a)) few))))
    at q false is (inr other) = rw other.0 (rw is refl)
    at q true is (inr other) =
        let kept : bit_at left (place_of q) ≡ bit_at bits (place_of q) =
        bit_at_clear_other w8 bits (place_of (code_of a)) few (place_of q) (omega (arith, few_places q)) (other_place q (code_of a) is (is_attention-code_of a) other.1) in
        rw other.0 (rw kept refl)

pub codes_of-zero : codes_of 0 ≡ no_code
codes_of-zero =
    same_codes _ _ (λ q. contains-codes_of 0 q ∙ ap (λ n. is_attention q && (n == 1)) (bit_at-zero (place_of q)) ∙ and-false (is_attention q) ∙ sym (contains-no_code q))

-- ---- a set by its bits

-- those of both numbers
pub contains-codes_of-or : (m n q : ℕ) → set.contains (codes_of (bit_or m n)) q ≡ (set.contains (codes_of m) q || set.contains (codes_of n) q)
contains-codes_of-or m n q =
    contains-codes_of (bit_or m n) q ∙ ap (λ x. is_attention q && (x == 1)) (bit_at_or m n (place_of q))
    ∙ either (is_attention q) (bit_at m (place_of q)) (bit_at n (place_of q)) (bit_at-lt m (place_of q)) (bit_at-lt n (place_of q))
    ∙ (λ i. sym (contains-codes_of m q) i || sym (contains-codes_of n q) i)
  where
    either : (b : Bool) (x y : ℕ) → x < 2 → y < 2 → (b && (max x y == 1)) ≡ ((b && (x == 1)) || (b && (y == 1)))
    either true x y few_x few_y = grind (arith, nat_tests)
    either false x y few_x few_y = refl

-- one where a test says so
pub contains-codes_of-if : (b : Bool) (a : Attention) (q : ℕ) → set.contains (codes_of (if b then flag_of a else 0)) q ≡ (b && q == code_of a)
contains-codes_of-if false a q = ap (λ s. set.contains s q) codes_of-zero ∙ contains-no_code q
contains-codes_of-if true a q =
    ap (λ n. set.contains (codes_of n) q) (sym (alone a)) ∙ ap (λ s. set.contains s q) (codes_of-or_flag 0 a ∙ ap (λ s. set.insert s (code_of a)) codes_of-zero)
    ∙ contains-insert_code no_code (code_of a) q ∙ ap (λ b. q == code_of a || b) (contains-no_code q) ∙ or-false (q == code_of a)
  where
    alone : (a : Attention) → bit_or 0 (flag_of a) ≡ flag_of a
    alone PowerOn = refl
    alone ReservationsPreempted = refl
    alone ReservationsReleased = refl
    alone RegistrationsPreempted = refl

pub few_bits : (bits : ℕ) → bit_and bits 15 < 16
few_bits bits = omega (arith, and_le_r bits 15)

all_set : (i : ℕ) → i < 4 → bit_at 15 i ≡ 1
all_set zero small = refl
all_set (suc zero) small = refl
all_set (suc (suc zero)) small = refl
all_set (suc (suc (suc zero))) small = refl
all_set (suc (suc (suc (suc i)))) small = absurd (omega arith)

-- bits past the fourth are of no code
pub codes_of-low : (bits : ℕ) → codes_of (bit_and bits 15) ≡ codes_of bits
codes_of-low bits =
    same_codes _ _ (λ q. contains-codes_of (bit_and bits 15) q ∙ ap (λ n. is_attention q && (n == 1)) (low (place_of q) (few_places q)) ∙ sym (contains-codes_of bits q))
  where
    low : (i : ℕ) → i < 4 → bit_at (bit_and bits 15) i ≡ bit_at bits i
    low i small = let set_bit = all_set i small in let few = bit_at-lt bits i in bit_at_and bits 15 i ∙ omega arith

-- ---- what a set says of its bits

pub AreAttentions-codes_of : (bits : ℕ) → AreAttentions (codes_of bits)
AreAttentions-codes_of bits q there =
    (and_parts (is_attention q) (bit_at bits (place_of q) == 1) (sym (contains-codes_of bits q) ∙ there)).0

pub same_bits : (m n : ℕ) → m < 16 → n < 16 → codes_of m ≡ codes_of n → m ≡ n
same_bits m n few_m few_n same =
    same_from_bits_below 4 m n few_m few_n at
  where
    bit : (a : Attention) → (bit_at m (place_of (code_of a)) == 1) ≡ (bit_at n (place_of (code_of a)) == 1)
    bit a =
        let attention = is_attention-code_of a in
        ap (λ b. b && (bit_at m (place_of (code_of a)) == 1)) (sym attention) ∙ sym (contains-codes_of m (code_of a))
        ∙ ap (λ s. set.contains s (code_of a)) same
        ∙ contains-codes_of n (code_of a) ∙ ap (λ b. b && (bit_at n (place_of (code_of a)) == 1)) attention

    from : (i : ℕ) → (bit_at m i == 1) ≡ (bit_at n i == 1) → bit_at m i ≡ bit_at n i
    from i tests = let few = bit_at-lt m i in let also = bit_at-lt n i in grind (arith, nat_tests)

    at : (i : ℕ) → i < 4 → bit_at m i ≡ bit_at n i
    at zero small = from 0 (bit PowerOn)
    at (suc zero) small = from 1 (bit ReservationsPreempted)
    at (suc (suc zero)) small = from 2 (bit ReservationsReleased)
    at (suc (suc (suc zero))) small = from 3 (bit RegistrationsPreempted)
    at (suc (suc (suc (suc i)))) small = absurd (omega arith)

pub is_same-codes_of : (m n : ℕ) → m < 16 → n < 16 → (m == n) ≡ is_same (codes_of m) (codes_of n)
is_same-codes_of m n few_m few_n =
    both_ways (m == n) (is_same (codes_of m) (codes_of n))
    (λ same. let equal : m ≡ n = grind (arith, nat_tests) in (is_same-tells (codes_of m) (codes_of n)).1 (ap codes_of equal))
    (λ same. let equal : m ≡ n = same_bits m n few_m few_n ((is_same-tells (codes_of m) (codes_of n)).0 same) in grind (arith, nat_tests))

-- the bits of one set are among those of another where its codes are
pub within_bits : (m n : ℕ) → m < 16 → ((bit_and n m == m) ≡ true) ↔ Within (codes_of m) (codes_of n)
within_bits m n few = (
  λ same q there.
      let parts = and_parts (is_attention q) (bit_at m (place_of q) == 1) (sym (contains-codes_of m q) ∙ there) in
      let both : bit_and n m ≡ m = grind (arith, nat_tests) in
      let bit : min (bit_at n (place_of q)) (bit_at m (place_of q)) ≡ bit_at m (place_of q) = sym (bit_at_and n m (place_of q)) ∙ ap (λ x. bit_at x (place_of q)) both in
      contains-codes_of n q ∙ rw (parts.0, set_too (bit_at n (place_of q)) (bit_at m (place_of q)) (bit_at-lt n (place_of q)) bit parts.1) refl,
  λ within.
      let both : bit_and n m ≡ m = same_from_bits_below 4 (bit_and n m) m (omega (arith, few, and_le_r n m)) few (λ i small. bit_at_and n m i ∙ kept within i small) in
      grind (arith, nat_tests),
)
  where
    set_too : (x y : ℕ) → x < 2 → min x y ≡ y → (y == 1) ≡ true → (x == 1) ≡ true
    set_too x y few same one = grind (arith, nat_tests)

    of : (a : Attention) → Within (codes_of m) (codes_of n) → (bit_at m (place_of (code_of a)) == 1) ≡ true → (bit_at n (place_of (code_of a)) == 1) ≡ true
    of a within one =
        let attention = is_attention-code_of a in
        (and_parts (is_attention (code_of a)) _ (sym (contains-codes_of n (code_of a)) ∙ within (code_of a) (contains-codes_of m (code_of a) ∙ rw (attention, one) refl))).1

    least : (x y : ℕ) → x < 2 → y < 2 → ((y == 1) ≡ true → (x == 1) ≡ true) → min x y ≡ y
    least x zero few_x few_y also = omega arith
    least x (suc zero) few_x few_y also = let one = also refl in grind (arith, nat_tests)
    least x (suc (suc y)) few_x few_y also = absurd (omega arith)

    at : (a : Attention) → Within (codes_of m) (codes_of n) → min (bit_at n (place_of (code_of a))) (bit_at m (place_of (code_of a))) ≡ bit_at m (place_of (code_of a))
    at a within = least _ _ (bit_at-lt n (place_of (code_of a))) (bit_at-lt m (place_of (code_of a))) (of a within)

    kept : Within (codes_of m) (codes_of n) → (i : ℕ) → i < 4 → min (bit_at n i) (bit_at m i) ≡ bit_at m i
    kept within zero small = at PowerOn within
    kept within (suc zero) small = at ReservationsPreempted within
    kept within (suc (suc zero)) small = at ReservationsReleased within
    kept within (suc (suc (suc zero))) small = at RegistrationsPreempted within
    kept within (suc (suc (suc (suc i)))) small = absurd (omega arith)
