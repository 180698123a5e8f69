-- The attentions of an owner that has been told, as a number.
use Rattle.pr_regions.proofs.Common.{◌≡◌, ℕ, ◌+◌, ◌<◌, Bool, true, false, ◌||◌, bit_or, refl, ap, ◌∙◌, lit<, codes_of, ATTENTION_SETS}
use Rattle.std.specs.FinSet as set
use Rattle.std.proofs.lemmas.Nat.{or_lt}
use Rattle.pr_attention.specs.declared.attention.Attention.TheVariants.{ReservationsPreempted, ReservationsReleased, RegistrationsPreempted}
use Rattle.pr_attention.proofs.lemmas.Bits.{contains-codes_of-if, contains-codes_of-or}
use Rattle.pr_unit.proofs.lemmas.Attentions.ToldAttentions.{is_pending_after}
use Rattle.pr_regions.specs.Regions.{flag}

-- ---- the bits of what is told

abbrev pub flags : Bool → Bool → Bool → ℕ
flags a b c = flag a 2 + (flag b 4 + flag c 8)

flags-lt : (a b c : Bool) → flags a b c < ATTENTION_SETS
flags-lt true true true = lit< tt
flags-lt true true false = lit< tt
flags-lt true false true = lit< tt
flags-lt true false false = lit< tt
flags-lt false true true = lit< tt
flags-lt false true false = lit< tt
flags-lt false false true = lit< tt
flags-lt false false false = lit< tt

apart : (a b c : Bool) → flags a b c ≡ bit_or (bit_or (flag a 2) (flag b 4)) (flag c 8)
apart true true true = refl
apart true true false = refl
apart true false true = refl
apart true false false = refl
apart false true true = refl
apart false true false = refl
apart false false true = refl
apart false false false = refl

pub told-lt : (q : ℕ) (a b c : Bool) → q < ATTENTION_SETS → bit_or q (flags a b c) < ATTENTION_SETS
told-lt q a b c few = or_lt 4 q (flags a b c) few (flags-lt a b c)

-- the codes of the number once told
pub contains-codes_told : (q : ℕ) (a b c : Bool) (code : ℕ) → set.contains (codes_of (bit_or q (flags a b c))) code ≡ is_pending_after (set.contains (codes_of q) code) a b c code
contains-codes_told q a b c code =
    contains-codes_of-or q (flags a b c) code
    ∙ ap (λ told. set.contains (codes_of q) code || told) (
    ap (λ n. set.contains (codes_of n) code) (apart a b c) ∙ contains-codes_of-or (bit_or (flag a 2) (flag b 4)) (flag c 8) code
    ∙ (λ i. (contains-codes_of-or (flag a 2) (flag b 4) code ∙ (λ j. contains-codes_of-if a ReservationsPreempted code j || contains-codes_of-if b ReservationsReleased code j)) i
    || contains-codes_of-if c RegistrationsPreempted code i))
    ∙ each (set.contains (codes_of q) code) _ _ _
  where
    each : (was x y z : Bool) → (was || ((x || y) || z)) ≡ (((was || x) || y) || z)
    each true x y z = refl
    each false x y z = refl
