-- Sets of codes by their numbers: which are within another, and which one a test tells.
use Rattle.pr_domain.proofs.Common.{◌≡◌, ℕ, ◌<◌, Bool, true, false, ◌&&◌, ◌||◌, ◌↔◌, if◌then◌else◌, IsTrue, ◌==◌, sym, refl, ◌∙◌, lit<, false≢true, has, BitSet, code_of, codes_of, Attention, PowerOn, ATTENTION_SETS}
use Rattle.pr_attention.specs.declared.attention.Attention.TheVariants.{ReservationsPreempted, ReservationsReleased, RegistrationsPreempted}
use Rattle.std.proofs.Common.{arith, bit_or}
use Rattle.std.specs.FinSet as set
use Rattle.std.proofs.lemmas.Bool.{false_from_ne_true}
use Rattle.std.proofs.lemmas.Bool.Decides.{nat_tests}
use Rattle.std.proofs.lemmas.Nat.{or_lt}
use Rattle.pr_attention.specs.Attentions.{is_attention, Codes}
use Rattle.pr_attention.proofs.lemmas.Bits.{flag_of, flag_of-lt, contains-codes_of-if, contains-codes_of-or}
use Rattle.pr_sets.specs.Numbers.{Within}

-- ---- the number of the codes that pass a test

module _ (test : ℕ → Bool) where
  abbrev one : Attention → ℕ
  one a = if test (code_of a) then flag_of a else 0

  one-lt : (a : Attention) → one a < ATTENTION_SETS
  one-lt a = at (test (code_of a))
    where
      at : (b : Bool) → (if b then flag_of a else 0) < ATTENTION_SETS
      at true = flag_of-lt a
      at false = lit< tt

  -- the code is that of this one, and passes
  abbrev is_one : ℕ → Attention → Bool
  is_one code a = test (code_of a) && code == code_of a

  abbrev number : ℕ
  number = bit_or (bit_or (one PowerOn) (one ReservationsPreempted)) (bit_or (one ReservationsReleased) (one RegistrationsPreempted))

  contains-number : (code : ℕ) → set.contains (codes_of number) code ≡ ((is_one code PowerOn || is_one code ReservationsPreempted) || (is_one code ReservationsReleased || is_one code RegistrationsPreempted))
  contains-number code =
      contains-codes_of-or (bit_or (one PowerOn) (one ReservationsPreempted)) (bit_or (one ReservationsReleased) (one RegistrationsPreempted)) code
      ∙ (λ i. two PowerOn ReservationsPreempted i || two ReservationsReleased RegistrationsPreempted i)
    where
      two : (a b : Attention) → set.contains (codes_of (bit_or (one a) (one b))) code ≡ (is_one code a || is_one code b)
      two a b = contains-codes_of-or (one a) (one b) code ∙ (λ i. contains-codes_of-if (test (code_of a)) a code i || contains-codes_of-if (test (code_of b)) b code i)

  any_one : (code : ℕ) → ((c : ℕ) → test c ≡ true → IsTrue (is_attention c)) → test code ≡ ((is_one code PowerOn || is_one code ReservationsPreempted) || (is_one code ReservationsReleased || is_one code RegistrationsPreempted))
  any_one code known = at (is_attention code) refl
    where
      at : (b : Bool) → is_attention code ≡ b → test code ≡ ((is_one code PowerOn || is_one code ReservationsPreempted) || (is_one code ReservationsReleased || is_one code RegistrationsPreempted))
      at false is =
          let fails : test code ≡ false = false_from_ne_true (test code) (λ passes. false≢true (sym is ∙ known code passes)) in
          grind (arith, nat_tests)
      at true is = grind (arith, nat_tests)

-- a test that only attentions pass tells one of the sixteen sets
pub numbered : (test : ℕ → Bool) → ((code : ℕ) → test code ≡ true → IsTrue (is_attention code)) → (q : ℕ) × (q < ATTENTION_SETS) × ((code : ℕ) → test code ≡ set.contains (codes_of q) code)
numbered test known = (
  number test,
  or_lt 4 _ _ (or_lt 4 _ _ (one-lt test PowerOn) (one-lt test ReservationsPreempted)) (or_lt 4 _ _ (one-lt test ReservationsReleased) (one-lt test RegistrationsPreempted)),
  λ code. any_one test code known ∙ sym (contains-number test code),
)

-- ---- all the sets within another

-- of the first sets, those within the other
pub record AreWithin (n : ℕ) (codes : Codes) (sets : BitSet) : Type 0 where
  pub few : (q : ℕ) → has sets q ≡ true → q < n
  pub within : (q : ℕ) → q < n → (has sets q ≡ true) ↔ Within (codes_of q) codes
