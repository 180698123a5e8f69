-- The data of replies, read back.
use Rattle.std.proofs.Common.{◌≡◌, ℕ, zero, suc, ◌+◌, ◌-◌, ◌*◌, ◌/◌, ◌%◌, ◌<◌, ◌≤◌, ◌^◌, false, nat_lt, List, [], ◌∷◌, ◌++◌, length, take, slice_index, Option, Some, None, refl, sym, ap, ◌∙◌, arith, add-one, length-append}
use Rattle.std.specs.Int.{w32, w64, to_be_bytes, from_be_bytes}
use Rattle.std.specs.List.{flat_map}
use Rattle.std.proofs.lemmas.Nat.{from_be_bytes-to_be_bytes_4, from_be_bytes-to_be_bytes_8}
use Rattle.std.proofs.lemmas.List.{get_or-append-add, take_more, take_all}
use Rattle.std.proofs.lemmas.Bool.Decides.{nat_tests}
use Rattle.pr_cdb.specs.declared.codes.TheConstants.{HEADER_LENGTH, KEY_LENGTH, MOST_NEXUSES}
use Rattle.pr_cdb.specs.declared.command.Kind.{Kind}
use Rattle.pr_cdb.specs.declared.reply.Sense.{Sense}
use Rattle.pr_cdb.specs.Bytes.{be32, be64}
use Rattle.pr_cdb.specs.ReplyData.{sense_bytes, keys_bytes, keys_in, first_keys, key_count, reservation_bytes, holder_in}
use Rattle.pr_cdb.specs.ReadBack.{sense_in, holder}
use Rattle.pr_cdb.specs.inside.KeyWidths.{HasKey}

pub sense_in-sense_bytes : (s : Sense) → s.key < 16 → sense_in (sense_bytes s) ≡ Some s
unfolding sense_in sense_bytes
sense_in-sense_bytes s small =
    let same : s.key % 16 % 16 ≡ s.key = omega arith in
    λ i. Some (record { key = same i; asc = s.asc; ascq = s.ascq })

pub holder_in-reservation_bytes : (g : ℕ) (held : Option (ℕ × Kind)) → HasKey held → holder_in (reservation_bytes g held) ≡ Some (holder held)
unfolding holder_in reservation_bytes be32 be64
holder_in-reservation_bytes g None fits = refl
holder_in-reservation_bytes g (Some r) fits = rw (from_be_bytes-to_be_bytes_8 r.0 fits) refl

-- past the first n bytes
at_past : (xs ys : List ℕ) (m j : ℕ) → slice_index (xs ++ ys) (length xs + m + j) ≡ slice_index ys (m + j)
at_past xs ys m j =
    let e : length xs + m + j ≡ length xs + (m + j) = omega arith in
    ap (λ n. slice_index (xs ++ ys) n) e ∙ get_or-append-add xs ys (m + j) 0

be64_past : (xs ys : List ℕ) (m : ℕ) → be64 (xs ++ ys) (length xs + m) ≡ be64 ys m
unfolding be64
be64_past xs ys m = λ i.
    from_be_bytes w64 (
    get_or-append-add xs ys m 0 i ∷ at_past xs ys m 1 i ∷ at_past xs ys m 2 i ∷ at_past xs ys m 3 i
    ∷ at_past xs ys m 4 i ∷ at_past xs ys m 5 i ∷ at_past xs ys m 6 i ∷ at_past xs ys m 7 i ∷ []
    )

-- each key has 64 bits
abbrev pub AreWords : List ℕ → Type 0
AreWords ks = (i : ℕ) → slice_index ks i < 2 ^ 64

key_at : (ks : List ℕ) (n : ℕ) → n < length ks → AreWords ks → be64 (flat_map (to_be_bytes w64) ks) (KEY_LENGTH * n) ≡ slice_index ks n
unfolding be64
key_at [] n small fits = absurd (omega arith)
key_at (k ∷ ks) zero small fits = from_be_bytes-to_be_bytes_8 k (fits 0)
key_at (k ∷ ks) (suc n) small fits =
    let e : KEY_LENGTH * suc n ≡ length (to_be_bytes w64 k) + KEY_LENGTH * n = omega arith in
    ap (be64 (to_be_bytes w64 k ++ flat_map (to_be_bytes w64) ks)) e ∙ be64_past (to_be_bytes w64 k) (flat_map (to_be_bytes w64) ks) (KEY_LENGTH * n)
    ∙ key_at ks n (omega arith) (λ i. fits (suc i))

first_keys_of : (front : List ℕ) (ks : List ℕ) (n : ℕ) → length front ≡ HEADER_LENGTH → n ≤ length ks → AreWords ks
    → first_keys n (front ++ flat_map (to_be_bytes w64) ks) ≡ take n ks
unfolding first_keys
first_keys_of front ks zero eight most fits = refl
first_keys_of front ks (suc n) eight most fits =
    let F = flat_map (to_be_bytes w64) ks in
    let e : HEADER_LENGTH + KEY_LENGTH * n ≡ length front + KEY_LENGTH * n = omega arith in
    let key = ap (be64 (front ++ F)) e ∙ be64_past front F (KEY_LENGTH * n) ∙ key_at ks n (omega arith) fits in
    (λ i. first_keys_of front ks n eight (omega arith) fits i ++ key i ∷ []) ∙ sym (take_suc ks n (omega arith))
  where
    take_suc : (ks : List ℕ) (n : ℕ) → n < length ks → take (suc n) ks ≡ take n ks ++ slice_index ks n ∷ []
    take_suc ks n small = rw (← add-one) (take_more ks n 0 small)

length-keys : (ks : List ℕ) → length (flat_map (to_be_bytes w64) ks) ≡ KEY_LENGTH * length ks
length-keys [] = refl
length-keys (k ∷ ks) = omega (arith, length-append (to_be_bytes w64 k) (flat_map (to_be_bytes w64) ks), length-keys ks)

-- every key is there, and no more is announced
key_count_of : (ks : List ℕ) (bytes : List ℕ) → length ks ≤ MOST_NEXUSES → length bytes ≡ HEADER_LENGTH + KEY_LENGTH * length ks → be32 bytes 4 ≡ KEY_LENGTH * length ks → key_count bytes ≡ length ks
key_count_of ks bytes most len announced =
    let a : (length bytes - HEADER_LENGTH) / KEY_LENGTH ≡ length ks = omega arith in
    let b : be32 bytes 4 / KEY_LENGTH ≡ length ks = omega arith in
    rw (a, b) (omega arith)

be32_there : (g : ℕ) (ks : List ℕ) → length ks ≤ MOST_NEXUSES → be32 (to_be_bytes w32 g ++ to_be_bytes w32 (KEY_LENGTH * length ks) ++ flat_map (to_be_bytes w64) ks) 4 ≡ KEY_LENGTH * length ks
unfolding be32
be32_there g ks most = from_be_bytes-to_be_bytes_4 (KEY_LENGTH * length ks) (omega arith)

pub keys_in-keys_bytes : (g : ℕ) (ks : List ℕ) → length ks ≤ MOST_NEXUSES → AreWords ks → keys_in (keys_bytes g ks) ≡ ks
unfolding keys_in keys_bytes
keys_in-keys_bytes g ks most fits =
    let front = to_be_bytes w32 g ++ to_be_bytes w32 (KEY_LENGTH * length ks) in
    let bytes = front ++ flat_map (to_be_bytes w64) ks in
    let len : length bytes ≡ HEADER_LENGTH + KEY_LENGTH * length ks = omega (arith, length-append front (flat_map (to_be_bytes w64) ks), length-keys ks) in
    let long : nat_lt (length bytes) HEADER_LENGTH ≡ false = grind (arith, nat_tests) in
    let count = key_count_of ks bytes most len (be32_there g ks most) in
    rw long (ap (λ n. first_keys n bytes) count ∙ first_keys_of front ks (length ks) refl (omega arith) fits ∙ take_all (length ks) ks (omega arith))
