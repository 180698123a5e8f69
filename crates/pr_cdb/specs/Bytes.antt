-- Agrees with SPC-4, 'Bit and byte ordering'; docs/FORMATS.md, 'Command bytes'.
-- The fields of commands and of data. A number of more than one byte has its highest byte first
-- (SPC-4, 'Bit and byte ordering').
use Rattle.std.specs.Prelude.{ℕ, ◌+◌, ◌==◌, Bool, not, List, [], ◌∷◌, slice_index, bit_and}
use Rattle.std.specs.Int.{w16, w32, w64, from_be_bytes}

-- the number in the bytes from place i, the highest first
unfoldable pub be16 : List ℕ → ℕ → ℕ
be16 bytes i = from_be_bytes w16 (slice_index bytes i ∷ slice_index bytes (i + 1) ∷ [])

unfoldable pub be32 : List ℕ → ℕ → ℕ
be32 bytes i =
    from_be_bytes w32 (slice_index bytes i ∷ slice_index bytes (i + 1) ∷ slice_index bytes (i + 2) ∷ slice_index bytes (i + 3) ∷ [])

unfoldable pub be64 : List ℕ → ℕ → ℕ
be64 bytes i =
    from_be_bytes w64 (
    slice_index bytes i ∷ slice_index bytes (i + 1) ∷ slice_index bytes (i + 2) ∷ slice_index bytes (i + 3)
    ∷ slice_index bytes (i + 4) ∷ slice_index bytes (i + 5) ∷ slice_index bytes (i + 6) ∷ slice_index bytes (i + 7) ∷ []
    )

-- the bit that is worth this much is set in the byte
abbrev pub has_flag : ℕ → ℕ → Bool
has_flag byte worth = not (bit_and byte worth == 0)
