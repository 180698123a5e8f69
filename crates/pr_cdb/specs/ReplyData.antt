-- Agrees with SPC-4, 'PERSISTENT RESERVE IN command'; docs/FORMATS.md, 'Reply bytes'.
-- The data that replies carry.
use Rattle.std.specs.Prelude.{ℕ, zero, suc, ◌+◌, ◌-◌, ◌*◌, ◌/◌, ◌%◌, ◌==◌, ◌||◌, nat_lt, min, if◌then◌else◌, List, [], ◌∷◌, ◌++◌, length, take, slice_index, Option, Some, None}
use Rattle.std.specs.Int.{w32, w64, to_be_bytes}
use Rattle.std.specs.List.{flat_map}
use Rattle.pr_cdb.specs.declared.codes.TheConstants.{FIXED_FORMAT, ADDITIONAL_SENSE_LENGTH, HEADER_LENGTH, KEY_LENGTH, RESERVATION_LENGTH, MOST_NEXUSES}
use Rattle.pr_cdb.specs.declared.command.Kind.{Kind}
use Rattle.pr_cdb.specs.declared.reply.Sense.{Sense}
use Rattle.pr_cdb.specs.Kinds.{type_code}
use Rattle.pr_cdb.specs.Bytes.{be32, be64}

-- sense data in fixed format, 18 bytes of which all but four are fixed (SPC-4, 'Fixed format sense data')
unfoldable pub sense_bytes : Sense → List ℕ
sense_bytes s =
    FIXED_FORMAT ∷ 0 ∷ s.key % 16 ∷ 0 ∷ 0 ∷ 0 ∷ 0 ∷ ADDITIONAL_SENSE_LENGTH ∷ 0 ∷ 0 ∷ 0 ∷ 0 ∷ s.asc ∷ s.ascq ∷ 0 ∷ 0 ∷ 0 ∷ 0 ∷ []

-- READ KEYS: the generation, the additional length, and each registered nexus's key, equal ones repeated
-- (SPC-4, 'READ KEYS service action')
unfoldable pub keys_bytes : ℕ → List ℕ → List ℕ
keys_bytes generation keys =
    to_be_bytes w32 generation ++ to_be_bytes w32 (KEY_LENGTH * length keys) ++ flat_map (to_be_bytes w64) keys

-- READ RESERVATION: the generation, the additional length, and for a reservation its key, then 5 bytes of
-- zero, its scope and type, and 2 bytes of zero (SPC-4, 'READ RESERVATION service action')
unfoldable pub reservation_bytes : ℕ → Option (ℕ × Kind) → List ℕ
reservation_bytes generation None = to_be_bytes w32 generation ++ to_be_bytes w32 0
reservation_bytes generation (Some r) =
    to_be_bytes w32 generation ++ to_be_bytes w32 RESERVATION_LENGTH ++ to_be_bytes w64 r.0
    ++ (0 ∷ 0 ∷ 0 ∷ 0 ∷ 0 ∷ type_code r.1 ∷ 0 ∷ 0 ∷ [])

-- REPORT CAPABILITIES of this unit: 8 bytes, of which the type mask is valid and has all six types
-- (SPC-4, 'REPORT CAPABILITIES service action')
unfoldable pub capabilities_bytes : List ℕ
capabilities_bytes = 0x00 ∷ 0x08 ∷ 0x00 ∷ 0x80 ∷ 0xea ∷ 0x01 ∷ 0x00 ∷ 0x00 ∷ []

-- the first n keys of the data of READ KEYS
unfoldable pub first_keys : ℕ → List ℕ → List ℕ
first_keys zero bytes = []
first_keys (suc n) bytes = first_keys n bytes ++ be64 bytes (HEADER_LENGTH + KEY_LENGTH * n) ∷ []

-- how many whole keys lie within the bytes and within the additional length, at most a key
-- for each nexus
abbrev pub key_count : List ℕ → ℕ
key_count bytes = min MOST_NEXUSES (min ((length bytes - HEADER_LENGTH) / KEY_LENGTH) (be32 bytes 4 / KEY_LENGTH))

-- the keys that the data of READ KEYS has, of which the end may be cut off
unfoldable pub keys_in : List ℕ → List ℕ
keys_in bytes = if nat_lt (length bytes) HEADER_LENGTH then [] else first_keys (key_count bytes) bytes

-- What the data of READ RESERVATION says, of which the end may be cut off: nothing where the additional
-- length is cut off, no reservation, or the key and the byte of scope and type where that byte is there.
unfoldable pub holder_in : List ℕ → Option (Option (ℕ × ℕ))
holder_in bytes =
    if nat_lt (length bytes) HEADER_LENGTH then None else (
    if be32 bytes 4 == 0 then Some None else (
    if nat_lt (length bytes) 22 || nat_lt (be32 bytes 4) 14 then None else
    Some (Some (be64 bytes HEADER_LENGTH, slice_index bytes 21))))

-- data cut at the allocation length (SPC-4, 'Allocation length')
abbrev pub cut : ℕ → List ℕ → List ℕ
cut alloc bytes = take alloc bytes
