-- Agrees with docs/FORMATS.md, 'Statements'.
-- The lines that a script is written as, and what the reader makes of them.
use Rattle.std.specs.Prelude.{◌≡◌, ℕ, List, [], ◌∷◌, Result, Ok, true, map}
use Rattle.pr_script.specs.Scripts.{Stmts}
use Rattle.pr_script.specs.Grammar.{script_fits}
use Rattle.pr_script.specs.Versions.{is_script_of}
use Rattle.pr_roles.specs.Fitting.{is_version}
use Rattle.pr_text.specs.declared.fault.ReadError.{ReadError}
use Rattle.pr_lines.specs.CommandWords.{without_keys}
use Rattle.pr_text.specs.Declarations.{OpenLines, in_script, Declared}
use Rattle.pr_text.specs.Declaring.{declared_keys}
use Rattle.pr_text.specs.Faults.{and_then}
use Rattle.pr_lines.specs.ScenarioLines.{ScenarioLine, StatementLine, states, send_line, on_line, done_line, repeat_line, break_line, stop_line}
use Rattle.pr_text.specs.NextLine.{begun_script, item_placed}
use Rattle.pr_text.specs.ScriptLines.{ScriptLine, send_at, arm_on, block_done, repeat_of, break_out, stop_with, body_lines}

-- what the line says; a key that its command drops is not written
abbrev pub said_by : ScriptLine → StatementLine
said_by (send_at line command) = send_line (without_keys command)
said_by (arm_on test) = on_line test
said_by block_done = done_line
said_by (repeat_of count) = repeat_line count
said_by break_out = break_line
said_by (stop_with word) = stop_line word

-- a send has the number of its own line, and any other line may have any number, here this one
abbrev pub number_of_line : ℕ → ScriptLine → ℕ
number_of_line n (send_at line command) = line
number_of_line n (arm_on test) = n
number_of_line n block_done = n
number_of_line n (repeat_of count) = n
number_of_line n break_out = n
number_of_line n (stop_with word) = n

-- a line by its number and what it says
pub record Line : Type 0 where
  pub number : ℕ
  pub item : ScenarioLine

abbrev pub line : ℕ → ScenarioLine → Line
line n item = record { number = n; item = item }

abbrev pub script_said : ℕ → List ScriptLine → List Line
script_said n ls = map (λ l. line (number_of_line n l) (states (said_by l))) ls

-- what lines make of what is declared, one after another
abbrev pub all_said : List Line → Declared → Result Declared ReadError
all_said [] d = Ok d
all_said (l ∷ ls) d = and_then (item_placed l.number l.item d) (all_said ls)

-- this script is open
abbrev pub within : Declared → OpenLines → Declared
within d o = record d { place = in_script o }

-- the lines end a script that these lines are, with no block open
pub record IsReread (n : ℕ) (d : Declared) (host budget : ℕ) (b : Stmts) : Type 0 where
  pub script : OpenLines
  pub stepped : all_said (script_said n (body_lines b)) (within d (begun_script host budget)) ≡ Ok (within d script)
  pub host_is : script.host ≡ host
  pub budget_is : script.budget ≡ budget
  pub lines_are : script.lines ≡ body_lines b
  pub closed : script.blocks ≡ []

-- The lines of a script that fits, with arms that the version has, have no fault, and are read as just that script's.
abbrev pub ScriptsHaveNoFault : Type 0
ScriptsHaveNoFault =
    (n : ℕ) (d : Declared) (host budget : ℕ) (b : Stmts) → is_version d.version ≡ true → is_script_of d.version b ≡ true
    → script_fits (declared_keys d) b ≡ true → IsReread n d host budget b
