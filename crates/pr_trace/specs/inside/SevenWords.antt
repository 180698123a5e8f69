-- The words of an entry's line, as the code keeps them.
use Rattle.std.specs.Prelude.{◌≡◌, ◌==◌, ℕ, Bool, false, List, [], ◌∷◌, length, Option, Some, None, MatchBool, MatchOption}
use Rattle.std.specs.Borrow.{Bor}
use Rattle.pr_trace.specs.declared.entry_reading.EntryWords.{EntryWords}
use Rattle.pr_cdb.specs.declared.codes.TheConstants.{FIXED_SENSE_LENGTH}
use Rattle.pr_cdb.specs.declared.reply.Sense.{Sense}
use Rattle.pr_cdb.specs.declared.reply.Status.{Status}
use Rattle.pr_script.specs.Chain.{◌>>=◌}
use Rattle.pr_trace.specs.EntryWords.{bytes_in, sense_under, status_in}
use Rattle.pr_trace.specs.TraceReadings.{words}

-- the words that are left, where there may be no more
abbrev pub words_left : Option (Bor (List ℕ)) → List (List ℕ)
words_left None = []
words_left (Some rest) = words rest.now

-- in their order
abbrev pub list_of_words : EntryWords → List (List ℕ)
list_of_words w = w.index.now ∷ w.name.now ∷ w.cdb.now ∷ w.params.now ∷ w.status.now ∷ w.sense.now ∷ w.bytes.now ∷ []

-- these are the words, or they are not just seven
abbrev pub AreSeven : List (List ℕ) → Option EntryWords → Type 0
AreSeven all found = MatchOption found ((length all == 7) ≡ false) (λ w. all ≡ list_of_words w)

-- this is the first of the words that are left, and what is left behind it, or none is left
abbrev pub TakesFirst : Option (Bor (List ℕ)) → Option (Bor (List ℕ) × Option (Bor (List ℕ))) → Type 0
TakesFirst rest found = MatchOption found (words_left rest ≡ []) (λ r. words_left rest ≡ r.0.now ∷ words_left r.1)

-- where a call says so, these are the bytes that a word writes, and where not, it writes none
abbrev pub TellsBytes : Option (List ℕ) → List ℕ → Bool → Type 0
TellsBytes written bytes told = MatchBool told (written ≡ Some bytes) (written ≡ None)

-- the status and the sense of an answer
abbrev pub answer_in : ℕ → List ℕ → List ℕ → Option (Status × Option Sense)
answer_in version status sense = status_in version status >>= λ t. bytes_in FIXED_SENSE_LENGTH sense >>= λ bytes. sense_under t bytes >>= λ s. Some (t, s)
