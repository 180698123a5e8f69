-- Agrees with docs/FORMATS.md, 'Table text'.
-- A script as rows, which are numbered from 1: its statements in the order in which they are written, each with the row that
-- follows.
use Rattle.std.specs.Prelude.{ℕ, zero, suc, ◌+◌, List, [], ◌∷◌, ◌++◌, Option, None, codes}
use Rattle.std.specs.List.{slice_get}
use Rattle.pr_cdb.specs.declared.command.Command.{Command}
use Rattle.pr_script.specs.declared.script.Test.{Test}
use Rattle.pr_script.specs.Scripts.{Stmt, Stmts, Arms, sends, repeats, breaks, stops, none, more, no_arm, arm}

-- A send with its line, its command, and of each arm what it asks and the row that follows; a repeat with its count and the row
-- past it; the end of a repeat's body, with the repeat's row; a break, with the row past the repeat; a stop with its word.
pub data TableRow : Type 0 where
  send_row : ℕ → Command → List (Test × ℕ) → TableRow
  repeat_row : ℕ → ℕ → TableRow
  again_row : ℕ → TableRow
  leave_row : ℕ → TableRow
  stop_row : List ℕ → TableRow

-- ---- how many rows there are

abbrev mutual
  pub row_count : Stmt → ℕ
  row_count (sends line command arms) = 1 + row_count_of_arms arms
  row_count (repeats count body) = 2 + row_count_of_all body
  row_count breaks = 1
  row_count (stops word) = 1

  pub row_count_of_all : Stmts → ℕ
  row_count_of_all none = 0
  row_count_of_all (more s rest) = row_count s + row_count_of_all rest

  pub row_count_of_arms : Arms → ℕ
  row_count_of_arms no_arm = 0
  row_count_of_arms (arm test body rest) = row_count_of_all body + row_count_of_arms rest

-- ---- the rows

-- The row at which statements begin whose rows are those from this one on. Where there is none it is the row that follows.
abbrev pub first_row : ℕ → ℕ → Stmts → ℕ
first_row at next none = next
first_row at next (more s rest) = at

-- of each arm what it asks, and the row at which its body begins; bodies have the rows from this one on
abbrev pub arm_rows : ℕ → ℕ → Arms → List (Test × ℕ)
arm_rows at next no_arm = []
arm_rows at next (arm test body rest) = (test, first_row at next body) ∷ arm_rows (at + row_count_of_all body) next rest

-- The rows of a statement from row `at` on, where `next` is the row that follows it, and `past` the one past the innermost repeat.
abbrev mutual
  pub rows_of : ℕ → ℕ → ℕ → Stmt → List TableRow
  rows_of at next past (sends line command arms) = send_row line command (arm_rows (at + 1) next arms) ∷ rows_of_arms (at + 1) next past arms
  rows_of at next past (repeats count body) =
      repeat_row count next ∷ (rows_of_all (at + 1) (at + 1 + row_count_of_all body) next body ++ again_row at ∷ [])
  rows_of at next past breaks = leave_row past ∷ []
  rows_of at next past (stops word) = stop_row word ∷ []

  pub rows_of_all : ℕ → ℕ → ℕ → Stmts → List TableRow
  rows_of_all at next past none = []
  rows_of_all at next past (more s rest) =
      rows_of at (first_row (at + row_count s) next rest) past s ++ rows_of_all (at + row_count s) next past rest

  pub rows_of_arms : ℕ → ℕ → ℕ → Arms → List TableRow
  rows_of_arms at next past no_arm = []
  rows_of_arms at next past (arm test body rest) =
      rows_of_all at next past body ++ rows_of_arms (at + row_count_of_all body) next past rest

-- All rows of a script. The last one is its end, to which a break leads that stands in no repeat.
abbrev pub table_rows : Stmts → List TableRow
table_rows b = rows_of_all 1 (1 + row_count_of_all b) (1 + row_count_of_all b) b ++ stop_row (codes "end") ∷ []

-- the row with this number
abbrev pub row_at : List TableRow → ℕ → Option TableRow
row_at rows zero = None
row_at rows (suc others) = slice_get rows others
