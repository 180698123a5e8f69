-- What is wrong with a line where it stands, or what it makes of what is declared.
use Rattle.std.specs.Prelude.{ℕ, List, [], ◌∷◌, ◌++◌, Result, Err}
use Rattle.pr_cdb.specs.declared.command.Command.{Command}
use Rattle.pr_lines.specs.declared.spelling.ParsedCommand.{ParsedCommand}
use Rattle.pr_lines.specs.ScenarioLines.{ScenarioLine, DeclaringLine, StatementLine, fence_line, declares, states, command_line, end_line}
use Rattle.pr_text.specs.declared.fault.ReadError.{ReadError}
use Rattle.pr_text.specs.declared.fault.ReadError.TheVariants as fault
use Rattle.pr_text.specs.Declarations.{OpenLines, Declared}
use Rattle.pr_text.specs.Faults.{unless}
use Rattle.pr_text.specs.LineFaults.{declaring_fault, statement_fault, command_fault, standing_fault}
use Rattle.pr_text.specs.NextLine.{with_declared, with_statement_line, with_line}

-- a line outside
unfoldable pub declaring_step : ℕ → DeclaringLine → Declared → Result Declared ReadError
declaring_step n l d = unless (declaring_fault n d l) (with_declared n d l)

-- a statement's line, of the script that is open, under these declared keys
unfoldable pub script_step : ℕ → List ℕ → StatementLine → OpenLines → Result OpenLines ReadError
script_step n keys l o = unless (statement_fault n keys o l) (with_statement_line n l o)

-- any line, of that script
abbrev pub line_step : ℕ → List ℕ → ScenarioLine → OpenLines → Result OpenLines ReadError
line_step n keys (fence_line version) o = Err (fault.Syntax n)
line_step n keys (declares l) o = Err (fault.Syntax n)
line_step n keys (states l) o = script_step n keys l o
line_step n keys (command_line s) o = Err (fault.Syntax n)
line_step n keys end_line o = Err (fault.Syntax n)

-- a command, behind those of the plan that is open
unfoldable pub planned_step : ℕ → List ℕ → ParsedCommand → List Command → Result (List Command) ReadError
planned_step n keys s commands = unless (command_fault n keys commands s) (commands ++ s.command ∷ [])

-- any line, which the version has
unfoldable pub item_standing : ℕ → ScenarioLine → Declared → Result Declared ReadError
item_standing n item d = unless (standing_fault n d item) (with_line n d item)
