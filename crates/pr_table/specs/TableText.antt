-- Agrees with docs/FORMATS.md, 'Table text'.
-- The text of a table: its version, whose script it is with its budget, and each row, with a line for each arm of a send.
use Rattle.std.specs.Prelude.{ℕ, ◌+◌, List, [], ◌∷◌, ◌++◌, codes, decimal, Option, None, Some}
use Rattle.std.specs.List.{flat_map}
use Rattle.pr_cdb.specs.declared.wire.Wire.{Wire}
use Rattle.pr_cdb.specs.Spelling.{spelling}
use Rattle.pr_script.specs.declared.script.Test.{Test}
use Rattle.pr_roles.specs.Scenarios.{Scenario, Task, Scripted, Planned, task}
use Rattle.pr_output.specs.PrintedLines.{line, pairs_or_dash}
use Rattle.pr_report.specs.OutlineText.{indented_line}
use Rattle.pr_report.specs.ScenarioWords.{test_words}
use Rattle.pr_trace.specs.TraceText.{name_of, names_in}
use Rattle.pr_table.specs.Rows.{TableRow, send_row, repeat_row, again_row, leave_row, stop_row, table_rows}

-- the send of this line, with the bytes of its command
abbrev pub send_line : ℕ → ℕ → Wire → List ℕ
send_line at number wire =
    line (decimal at) (codes "send" ∷ decimal number ∷ pairs_or_dash wire.cdb.items ∷ pairs_or_dash wire.params.items ∷ [])

-- what an arm asks, and the row that follows
abbrev pub arm_line : Test × ℕ → List ℕ
arm_line a = indented_line (test_words a.0 ++ decimal a.1 ∷ [])

unfoldable pub row_text : ℕ → TableRow → List ℕ
row_text at (send_row number command arms) = send_line at number (spelling command) ++ flat_map arm_line arms
row_text at (repeat_row count past) = line (decimal at) (codes "repeat" ∷ decimal count ∷ codes "past" ∷ decimal past ∷ [])
row_text at (again_row repeat) = line (decimal at) (codes "again" ∷ decimal repeat ∷ [])
row_text at (leave_row past) = line (decimal at) (codes "leave" ∷ decimal past ∷ [])
row_text at (stop_row word) = line (decimal at) (codes "stop" ∷ word ∷ [])

-- the rows from this number on
abbrev pub rows_text : ℕ → List TableRow → List ℕ
rows_text at [] = []
rows_text at (row ∷ rows) = row_text at row ++ rows_text (at + 1) rows

-- a table has the version of its scenario
unfoldable pub version_line : ℕ → List ℕ
version_line version = line (codes "fence-table") (decimal version ∷ [])

unfoldable pub host_line : List ℕ → ℕ → List ℕ
host_line name budget = line (codes "host") (name ∷ codes "budget" ∷ decimal budget ∷ [])

abbrev pub table_text : ℕ → List ℕ → ℕ → List TableRow → List ℕ
table_text version name budget rows = version_line version ++ (host_line name budget ++ rows_text 1 rows)

-- of the task of a nexus of this name; a guest has no table
abbrev pub task_table_text : ℕ → List ℕ → Option Task → List ℕ
task_table_text version name None = []
task_table_text version name (Some (Scripted b budget)) = table_text version name budget (table_rows b)
task_table_text version name (Some (Planned commands)) = []

abbrev pub host_table_text : Scenario → ℕ → List ℕ
host_table_text s h = task_table_text s.version (name_of (names_in s) h) (task s h)
