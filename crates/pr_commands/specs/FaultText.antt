-- Agrees with docs/FORMATS.md, 'Fault lines and exit statuses'.
-- The one line for a fault, the class of a fault, and the exit status of a class.
use Rattle.std.specs.Prelude.{ℕ, List, [], ◌∷◌, codes}
use Rattle.std.specs.Fmt.{decimal}
use Rattle.std.specs.declared.io.ErrorKind.{ErrorKind}
use Rattle.std.specs.declared.io.ErrorKind.TheVariants as kind
use Rattle.pr_text.specs.declared.fault.Which.{Which}
use Rattle.pr_text.specs.declared.fault.Which.TheVariants as which
use Rattle.pr_text.specs.declared.fault.ReadError.{ReadError}
use Rattle.pr_text.specs.declared.fault.ReadError.TheVariants as input
use Rattle.pr_output.specs.PrintedLines.{line}
use Rattle.pr_trace.specs.declared.trace_error.TraceError.{TraceError}
use Rattle.pr_trace.specs.declared.trace_error.TraceError.TheVariants as trace
use Rattle.pr_commands.specs.declared.fault.Fault.{Fault}
use Rattle.pr_commands.specs.declared.fault.Fault.TheVariants as fault
use Rattle.pr_commands.specs.declared.fault.ExitStatus.{ExitStatus}
use Rattle.pr_commands.specs.declared.fault.ExitStatus.TheVariants as status

abbrev pub which_word : Which → List ℕ
which_word which.Hosts = codes "Hosts"
which_word which.Keys = codes "Keys"
which_word which.Statements = codes "Statements"
which_word which.Arms = codes "Arms"
which_word which.Nesting = codes "Nesting"
which_word which.Repeat = codes "Repeat"
which_word which.Budget = codes "Budget"
which_word which.Roles = codes "Roles"
which_word which.Plan = codes "Plan"
which_word which.Busy = codes "Busy"
which_word which.Full = codes "Full"
which_word which.Resets = codes "Resets"

-- a fault of a whole text, and one of a line, by number and name; the first word tells which text
abbrev pub of_whole : List ℕ → List ℕ → List ℕ → List (List ℕ)
of_whole which number name = which ∷ number ∷ name ∷ []

abbrev pub at_line : List ℕ → List ℕ → List ℕ → ℕ → List (List ℕ)
at_line which number name at = which ∷ number ∷ name ∷ codes "line" ∷ decimal at ∷ []

-- of the scenario's text
abbrev pub of_text : List ℕ → List ℕ → List (List ℕ)
of_text number name = of_whole (codes "input") number name

abbrev pub of_line : List ℕ → List ℕ → ℕ → List (List ℕ)
of_line number name at = at_line (codes "input") number name at

abbrev pub input_words : ReadError → List (List ℕ)
input_words input.TooLarge = of_text (codes "1") (codes "TooLarge")
input_words (input.NotAscii at) = of_line (codes "2") (codes "NotAscii") at
input_words (input.LineTooLong at) = of_line (codes "3") (codes "LineTooLong") at
input_words (input.Syntax at) = of_line (codes "4") (codes "Syntax") at
input_words (input.UnknownName at) = of_line (codes "5") (codes "UnknownName") at
input_words (input.Limit limit at) =
    codes "input" ∷ codes "6" ∷ codes "Limit" ∷ which_word limit ∷ codes "line" ∷ decimal at ∷ []
input_words (input.UndeclaredKey at) = of_line (codes "7") (codes "UndeclaredKey") at
input_words (input.Repeated at) = of_line (codes "8") (codes "Repeated") at
input_words (input.Unclosed at) = of_line (codes "9") (codes "Unclosed") at
input_words input.ReadFault = of_text (codes "10") (codes "ReadFault")
input_words input.Memory = codes "memory" ∷ []
input_words input.EmptyStart = of_text (codes "12") (codes "EmptyStart")

abbrev pub trace_words : TraceError → List (List ℕ)
trace_words (trace.Syntax at) = at_line (codes "trace") (codes "1") (codes "Syntax") at
trace_words (trace.UnknownName at) = at_line (codes "trace") (codes "2") (codes "UnknownName") at
trace_words trace.TooLong = of_whole (codes "trace") (codes "3") (codes "TooLong")
trace_words trace.ReadFault = of_whole (codes "trace") (codes "4") (codes "ReadFault")
trace_words trace.Memory = codes "memory" ∷ []

-- the words after the program's name
abbrev pub told_words : Fault → List (List ℕ)
told_words fault.Usage = codes "usage" ∷ []
told_words fault.File = codes "file" ∷ []
told_words (fault.Input error) = input_words error
told_words (fault.Trace error) = trace_words error
told_words (fault.Thread name) = codes "thread" ∷ name.bytes ∷ []
told_words fault.History = codes "history" ∷ []
told_words fault.Memory = codes "memory" ∷ []
told_words fault.Output = codes "output" ∷ []

-- the line with these words after the program's name
abbrev pub told_line : List (List ℕ) → List ℕ
told_line words = line (codes "fence:") words

unfoldable pub fault_text : Fault → List ℕ
fault_text f = told_line (told_words f)

-- a fault of the input; want of memory is none
abbrev pub input_fault : ReadError → Fault
input_fault input.Memory = fault.Memory
input_fault error = fault.Input error

-- a fault of the trace; want of memory is none
abbrev pub trace_fault : TraceError → Fault
trace_fault trace.Memory = fault.Memory
trace_fault error = fault.Trace error

-- why the words of the command line were not to be had: one of them is no text
abbrev pub args_fault : ErrorKind → Fault
args_fault kind.OutOfMemory = fault.Memory
args_fault _ = fault.Usage

-- why a path was not opened
abbrev pub open_fault : ErrorKind → Fault
open_fault kind.OutOfMemory = fault.Memory
open_fault _ = fault.File

abbrev pub status_of : Fault → ExitStatus
status_of fault.Usage = status.Usage
status_of fault.Memory = status.Memory
status_of (fault.Input input.Memory) = status.Memory
status_of (fault.Input error) = status.Fault
status_of (fault.Trace trace.Memory) = status.Memory
status_of (fault.Trace error) = status.Fault
status_of (fault.Thread name) = status.Memory
status_of fault.History = status.Fault
status_of fault.File = status.Fault
status_of fault.Output = status.Fault

abbrev pub exit_status_of : ExitStatus → ℕ
exit_status_of status.Done = 0
exit_status_of status.Refused = 1
exit_status_of status.Usage = 2
exit_status_of status.Fault = 3
exit_status_of status.Memory = 4
