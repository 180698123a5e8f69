-- What is wrong after the last line, as the reader finds it: what is missing, and then whether there is a start.
use Rattle.std.specs.Prelude.{ℕ, List, length, Option, Some, option_map, if◌then◌else◌, ◌==◌, Result, Ok, Err}
use Rattle.pr_text.specs.declared.fault.ReadError.{ReadError}
use Rattle.pr_text.specs.declared.fault.Which.TheVariants as which
use Rattle.pr_text.specs.declared.fault.ReadError.TheVariants as fault
use Rattle.pr_text.specs.Declarations.{Declaration, Context, before_all, outside, in_script, in_plan, Declared}
use Rattle.pr_text.specs.Texts.{first_unscripted, starts_somewhere}

-- what is missing in a text that ends outside scripts and plans, on the line of this number
abbrev pub whole_fault : ℕ → List Declaration → Option ReadError
whole_fault n nexuses =
    if length nexuses == 0 then Some (fault.Limit which.Hosts n) else option_map (λ line. fault.Syntax line) (first_unscripted nexuses)

abbrev pub missing_at : ℕ → Declared → Context → Option ReadError
missing_at n d before_all = Some (fault.Syntax 1)
missing_at n d outside = whole_fault n d.nexuses
missing_at n d (in_script o) = Some (fault.Unclosed n)
missing_at n d (in_plan h commands) = Some (fault.Unclosed n)

abbrev pub missing_fault : ℕ → Declared → Option ReadError
missing_fault n d = missing_at n d d.place

abbrev pub start_result : Declared → Result Declared ReadError
start_result d = if starts_somewhere d then Ok d else Err fault.EmptyStart
