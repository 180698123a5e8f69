-- How a command fails before it has written anything.
use Rattle.std.specs.Prelude.{ℕ, List, Option}
use Rattle.pr_trace.specs.declared.trace_error.TraceError.{TraceError}
use Rattle.pr_commands.specs.declared.fault.Fault.{Fault}
use Rattle.pr_commands.specs.Endings.{IsFault}

abbrev pub IsEarlyFault : Type 0 → (TraceError → Type 0) → (List ℕ → Type 0) → Type 0 → Option (List ℕ) → Fault → Type 0
IsEarlyFault Misused Untraced Unstarted Differs known f = IsFault Misused Untraced Unstarted Differs ⊥ known f
