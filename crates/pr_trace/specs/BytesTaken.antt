-- Agrees with docs/FORMATS.md, 'Reading a trace'.
-- How many bytes are taken from a reader.
use Rattle.std.specs.Prelude.{ℕ, ◌+◌, ◌*◌, ◌≤◌, List, length, Option}
use Rattle.std.specs.Borrow.{MutBor}
use Rattle.std.specs.Io.KnownBytes.{Consumes}
use Rattle.std.specs.declared.io.Read as Read
use denote.Triple.Both.{Both}
use Rattle.pr_trace.specs.declared.ahead.TheConstants.{MOST_LINE_BYTES, MOST_HELD}
use Rattle.pr_trace.specs.Versions.{most_items}
use Rattle.pr_trace.specs.declared.trace_reading.TheConstants.{MOST_LATER_LINES}

-- the reader has lost some bytes from the front, no more than the limit
pub record LosesUpTo (limit : ℕ) (old new : Option (List ℕ)) : Type 0 where
  pub lost : List ℕ
  pub taken : Consumes old new lost
  pub limited : length lost ≤ limit

-- a call, with the reader as it was and as it is, has taken no more bytes than the limit
abbrev pub TakesUpTo : {A : Type 0} → Read.Ghosts A → Both (MutBor A) (MutBor A) → ℕ → Type 0
TakesUpTo ghosts reader limit = LosesUpTo limit (ghosts.remaining reader.entry.now) (ghosts.remaining reader.exit.now)

-- the bytes of so many lines of a trace, with their ends, where each is as long as it may be
abbrev pub bytes_of_lines : ℕ → ℕ
bytes_of_lines n = n * (MOST_LINE_BYTES + 1)

-- all that is taken of a trace of this version: the first line, the entries, the lines behind them, and what is held and
-- not looked at
abbrev pub most_of_trace : ℕ → ℕ
most_of_trace version = bytes_of_lines (1 + most_items version + MOST_LATER_LINES) + MOST_HELD

-- all that is taken of a trace of any version: those of the second are the longest
abbrev pub most_of_any_trace : ℕ
most_of_any_trace = most_of_trace 2
