-- Words that were written are read back.
use Rattle.pr_trace.proofs.Common.{◌≡◌, ℕ, zero, suc, ◌+◌, ◌/◌, ◌%◌, ◌<◌, ◌≤◌, true, false, List, [], ◌∷◌, length, slice_index, Some, None, codes, Option, bytes_eq, refl, ap, inl, inr, arith, ne_eqb, digit_glyph, cases_lt, nat_tests, bytes_eq-Decides, pairs_in, pairs_or_dash, pairs, lt-ltb, Status, AreBytes, has_status, HasSense}
use Rattle.std.proofs.lemmas.Bool.{le-leb, lt-leb}
use Rattle.pr_cdb.specs.declared.reply.Sense.{Sense}
use Rattle.pr_cdb.specs.declared.reply.Status.TheVariants.{Good, CheckCondition}
use Rattle.pr_cdb.specs.ReplyData.{sense_bytes}
use Rattle.pr_cdb.proofs.lemmas.ReplyRoundTrip.{sense_in-sense_bytes}
use Rattle.pr_script.specs.Digits.{byte_of, digit_of, digit_value}
use Rattle.pr_trace.specs.TraceText.{sense_data, status_word}
use Rattle.pr_trace.specs.EntryWords.{bytes_in, sense_under, status_in}
use Rattle.pr_trace.proofs.lemmas.EntryWords.PairBytes.{bytes_all, bytes_dash}

pub same_bytes : (w : List ℕ) → bytes_eq w w ≡ true
same_bytes w = (bytes_eq-Decides w w).1 refl

-- ---- bytes

glyph_low : (d : ℕ) → d < 10 → digit_glyph false d ≡ 48 + d
glyph_low d h = grind (arith, nat_tests)

glyph_high : (d : ℕ) → 10 ≤ d → digit_glyph false d ≡ 87 + d
glyph_high d h = grind (arith, nat_tests)

digit_value_low : (b d : ℕ) → b ≡ 48 + d → d < 10 → digit_value b ≡ d
digit_value_low b d e h = rw (le-leb 48 b (omega arith), le-leb b 57 (omega arith)) (omega arith)

digit_value_high : (b d : ℕ) → b ≡ 87 + d → 10 ≤ d → d < 16 → digit_value b ≡ d
digit_value_high b d e h k =
    rw (le-leb 48 b (omega arith), lt-leb b 57 (omega arith), le-leb 97 b (omega arith), le-leb b 102 (omega arith)) (omega arith)

digit_value_back : (d : ℕ) → d < 16 → digit_value (digit_glyph false d) ≡ d
digit_value_back d h = elim (cases_lt d 10) [
  | inl k ↦ digit_value_low (digit_glyph false d) d (glyph_low d k) k
  | inr k ↦ digit_value_high (digit_glyph false d) d (glyph_high d k) k h
]

digit_back : (d : ℕ) → d < 16 → digit_of (digit_glyph false d) ≡ Some d
digit_back d h = rw (digit_value_back d h, lt-ltb d 16 h) refl

glyph_no_dash : (d : ℕ) → digit_glyph false d ≡ 45 → ⊥
glyph_no_dash d h = grind (arith, nat_tests)

byte_back : (b : ℕ) → b < 256 → byte_of (digit_glyph false (b / 16)) (digit_glyph false (b % 16)) ≡ Some b
byte_back b h = rw (digit_back (b / 16) (omega arith), digit_back (b % 16) (omega arith)) (ap (λ n. Some n) (omega arith))

tail_bytes : (b : ℕ) (bs : List ℕ) → AreBytes (b ∷ bs) → AreBytes bs
tail_bytes b bs h = λ i. h (suc i)

pub pairs_back : (bytes : List ℕ) → AreBytes bytes → pairs_in (pairs bytes) ≡ Some bytes
unfolding pairs
pairs_back [] h = refl
pairs_back (b ∷ bs) h = rw (byte_back b (h 0), pairs_back bs (tail_bytes b bs h)) refl

no_dash : (b : ℕ) (bs : List ℕ) → bytes_eq (pairs (b ∷ bs)) (codes "-") ≡ false
unfolding pairs
no_dash b bs = rw (ne_eqb (digit_glyph false (b / 16)) 45 (glyph_no_dash (b / 16))) refl

pub bytes_back : (most : ℕ) (bytes : List ℕ) → AreBytes bytes → length bytes ≤ most → bytes_in most (pairs_or_dash bytes) ≡ Some bytes
bytes_back most [] h k = bytes_dash most (codes "-") refl
bytes_back most (b ∷ bs) h k = bytes_all most (pairs (b ∷ bs)) (b ∷ bs) (no_dash b bs) (pairs_back (b ∷ bs) h) (omega arith) k

-- ---- status and sense

pub status_back : (version : ℕ) (t : Status) → has_status version t ≡ true → status_in version (status_word t) ≡ Some t
status_back version Good h = rw h refl
status_back version _ h = rw h refl

pub sense_back : (t : Status) (s : Option Sense) → HasSense t s → sense_under t (sense_data s) ≡ Some s
sense_back CheckCondition (Some s) h = rw (sense_in-sense_bytes s h.0, same_bytes (sense_bytes s)) refl
sense_back CheckCondition None h = absurd h
sense_back _ None h = refl
sense_back _ (Some s) h = absurd h

-- each is a byte
abbrev pub EachByte : List ℕ → Type 0
EachByte [] = Unit {0}
EachByte (b ∷ bs) = (b < 256) × EachByte bs

pub are_bytes : (bs : List ℕ) → EachByte bs → AreBytes bs
are_bytes [] h = λ i. omega arith
are_bytes (b ∷ bs) h = λ i. elim i as (λ j. slice_index (b ∷ bs) j < 256) [ zero ↦ h.0 | suc j ↦ are_bytes bs h.1 j ]

four_zeros : (bs : List ℕ) → EachByte bs → EachByte (0 ∷ 0 ∷ 0 ∷ 0 ∷ bs)
four_zeros bs h = (omega arith, (omega arith, (omega arith, (omega arith, h))))

pub sense_each : (s : Sense) → s.asc < 256 → s.ascq < 256 → EachByte (sense_bytes s)
unfolding sense_bytes
sense_each s h k =
    let codes_on = s.asc ∷ s.ascq ∷ 0 ∷ 0 ∷ 0 ∷ 0 ∷ [] in
    let key : s.key % 16 < 256 = omega arith in
    (omega arith, (omega arith, (key, four_zeros (0x0a ∷ 0 ∷ 0 ∷ 0 ∷ 0 ∷ codes_on) (omega arith, four_zeros codes_on (h, (k, four_zeros [] tt))))))

pub data_are_bytes : (t : Status) (s : Option Sense) → HasSense t s → AreBytes (sense_data s)
data_are_bytes CheckCondition (Some s) h = are_bytes (sense_bytes s) (sense_each s h.1 h.2)
data_are_bytes CheckCondition None h = absurd h
data_are_bytes _ None h = are_bytes [] tt
data_are_bytes _ (Some s) h = absurd h

pub data_short : (s : Option Sense) → length (sense_data s) ≤ 18
unfolding sense_bytes
data_short None = omega arith
data_short (Some s) = omega arith
