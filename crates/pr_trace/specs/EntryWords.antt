-- Agrees with docs/FORMATS.md, 'Reading a trace'.
-- What the words of an entry's line say: INDEX NAME CDB PARAMS STATUS SENSE BYTES.
use Rattle.std.specs.Prelude.{ℕ, ◌==◌, ◌&&◌, nat_lt, nat_le, if◌then◌else◌, List, [], ◌∷◌, length, slice_index_or, Option, Some, None, option_map, codes, bytes_eq, decimal}
use Rattle.std.specs.List.{find}
use Rattle.pr_cdb.specs.declared.codes.TheConstants.{MOST_CDB_LENGTH, PARAMETER_LIST_LENGTH, FIXED_SENSE_LENGTH}
use Rattle.pr_cdb.specs.declared.reply.Reply.{Reply}
use Rattle.pr_cdb.specs.declared.reply.Sense.{Sense}
use Rattle.pr_cdb.specs.declared.reply.Status.{Status}
use Rattle.pr_cdb.specs.declared.reply.Status.TheVariants.{Good, CheckCondition, Conflict, Busy, TaskFull}
use Rattle.pr_cdb.specs.declared.wire.Wire.{Wire}
use Rattle.pr_cdb.specs.ReplyData.{sense_bytes}
use Rattle.pr_cdb.specs.ReadBack.{sense_in}
use Rattle.pr_cdb.specs.Spelling.{wire_of}
use Rattle.pr_unit.specs.Replies.{reply_of}
use Rattle.pr_script.specs.Digits.{byte_of}
use Rattle.pr_script.specs.Names.{is_name}
use Rattle.pr_trace.specs.Versions.{has_status, most_data}
use Rattle.pr_trace.specs.TraceText.{status_word}
use Rattle.pr_script.specs.Chain.{◌>>=◌}

-- ---- bytes

-- the bytes that pairs of digits write
abbrev pub pairs_in : List ℕ → Option (List ℕ)
pairs_in [] = Some []
pairs_in (d ∷ []) = None
pairs_in (h ∷ l ∷ ds) = byte_of h l >>= λ b. pairs_in ds >>= λ bs. Some (b ∷ bs)

-- the bytes that a word writes: `-` for none, or pairs of digits for 1 to so many
unfoldable pub bytes_in : ℕ → List ℕ → Option (List ℕ)
bytes_in most word =
    if bytes_eq word (codes "-") then Some [] else
    (pairs_in word >>= λ bytes. if nat_lt 0 (length bytes) && nat_le (length bytes) most then Some bytes else None)

-- ---- a command and its answer

-- a command as it travelled: CDB and PARAMS
abbrev pub wire_in : List ℕ → List ℕ → Option Wire
wire_in cdb params =
    bytes_in MOST_CDB_LENGTH cdb >>= λ c. bytes_in PARAMETER_LIST_LENGTH params >>= λ p. if length c == 0 then None else Some (wire_of c p)

-- those of every version
abbrev pub statuses : List Status
statuses = Good ∷ CheckCondition ∷ Conflict ∷ Busy ∷ TaskFull ∷ []

-- the status with this word, of those that the version has
abbrev pub status_in : ℕ → List ℕ → Option Status
status_in version word = find (λ status. bytes_eq word (status_word status) && has_status version status) statuses

-- the sense of which these are the very bytes
abbrev pub sense_of : List ℕ → Option Sense
sense_of bytes = sense_in bytes >>= λ s. if bytes_eq bytes (sense_bytes s) then Some s else None

-- no sense, and no bytes of one
abbrev pub no_sense_in : List ℕ → Option (Option Sense)
no_sense_in bytes = if length bytes == 0 then Some None else None

-- there is a sense with CHECK CONDITION, and with no other status
abbrev pub sense_under : Status → List ℕ → Option (Option Sense)
sense_under Good bytes = no_sense_in bytes
sense_under CheckCondition bytes = option_map (λ s. Some s) (sense_of bytes)
sense_under Conflict bytes = no_sense_in bytes
sense_under Busy bytes = no_sense_in bytes
sense_under TaskFull bytes = no_sense_in bytes

-- the answer: STATUS, SENSE and BYTES
abbrev pub reply_in : ℕ → List ℕ → List ℕ → List ℕ → Option Reply
reply_in version status sense bytes =
    status_in version status >>= λ t. bytes_in FIXED_SENSE_LENGTH sense >>= λ sb. sense_under t sb >>= λ s. bytes_in (most_data version) bytes >>= λ b. Some (reply_of t s b)

-- ---- the whole line

-- the word at this place
abbrev pub word_at : List (List ℕ) → ℕ → List ℕ
word_at words place = slice_index_or words place []

-- what the words of the entry with this index say, where NAME has the form of a name, but for whose it is
unfoldable pub exchange_in : ℕ → ℕ → List (List ℕ) → Option (Wire × Reply)
exchange_in version index words =
    if length words == 7 && (bytes_eq (word_at words 0) (decimal index) && is_name (word_at words 1)) then
    (wire_in (word_at words 2) (word_at words 3) >>= λ wire.
    reply_in version (word_at words 4) (word_at words 5) (word_at words 6) >>= λ reply. Some (wire, reply))
    else None
