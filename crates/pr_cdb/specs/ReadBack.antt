-- Agrees with SPC-4, 'Fixed format sense data', 'READ RESERVATION service action'; docs/FORMATS.md, 'Reply bytes'.
-- What is read back of the data of replies that was written.
use Rattle.std.specs.Prelude.{ℕ, ◌%◌, ◌==◌, ◌||◌, not, nat_lt, if◌then◌else◌, List, length, slice_index, Option, Some, None}
use Rattle.pr_cdb.specs.declared.codes.TheConstants.{FIXED_FORMAT}
use Rattle.pr_cdb.specs.declared.command.Kind.{Kind}
use Rattle.pr_cdb.specs.declared.reply.Sense.{Sense}
use Rattle.pr_cdb.specs.Kinds.{type_code}

-- What sense data in fixed format reports: at least 14 bytes are there, and the low seven bits of the
-- first are 70h.
unfoldable pub sense_in : List ℕ → Option Sense
sense_in bytes =
    if nat_lt (length bytes) 14 || not (slice_index bytes 0 % 128 == FIXED_FORMAT) then None else
    Some (record { key = slice_index bytes 2 % 16; asc = slice_index bytes 12; ascq = slice_index bytes 13 })

-- what the data of READ RESERVATION says of a reservation: its key and its type, under scope 0
abbrev pub holder : Option (ℕ × Kind) → Option (ℕ × ℕ)
holder None = None
holder (Some r) = Some (r.0, type_code r.1)
