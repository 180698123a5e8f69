-- Agrees with docs/FORMATS.md, 'Replaying'.
-- What `fence replay` writes.
use Rattle.std.specs.Prelude.{◌≡◌, ℕ, Bool, true, false, IsTrue, List, map, Option, Some, None, IfSome, Result, Err}
use Rattle.std.specs.List.{list_any}
use Rattle.pr_roles.specs.declared.step.Step.{Step}
use Rattle.pr_roles.specs.Scenarios.{Scenario}
use Rattle.pr_roles.specs.Worlds.{is_trapped}
use Rattle.pr_roles.specs.Schedules.{Schedule}
use Rattle.pr_audit.specs.Ends.{ending_of}
use Rattle.pr_world.specs.declared.replaying.Replayed.{Replayed}
use Rattle.pr_world.specs.Courses.{IsReached}
use Rattle.pr_world.specs.Replays.{IsEndOf}
use Rattle.pr_text.specs.Reading.{IsWrittenAs}
use Rattle.pr_trace.specs.TraceText.{names_in, trace_text}
use Rattle.pr_trace.specs.Traces.{IsTraceOf as IsTraceOfSchedule}
use Rattle.pr_commands.specs.declared.fault.Fault.{Fault}
use Rattle.pr_commands.specs.declared.fault.Fault.TheVariants as fault
use Rattle.pr_commands.specs.Endings.{Outputs}
use Rattle.pr_commands.specs.Steps.{steps_of, has_wrong_count}

-- The text is a scenario, the steps name its nexuses, and this is the trace of what they lead to from the first start, which is a
-- run of the scenario; it is refused where a host is trapped.
pub record IsTraceOf (steps : List (List ℕ)) (text trace : List ℕ) (refused : Bool) : Type 0 where
  pub scenario : Scenario
  pub read : IsWrittenAs text scenario
  pub turns : List Step
  pub named : steps_of scenario.version (names_in scenario) steps ≡ Some turns
  pub last : Schedule
  pub reached : IsReached scenario turns last
  pub trace_is : IsTraceOfSchedule scenario last trace
  pub refused_is : refused ≡ list_any is_trapped last.world.controls

-- The steps are at fault: there are too few or too many, or the text is a scenario and one of them is no step
-- of it.
abbrev pub IsUsageFault : List (List ℕ) → List ℕ → Bool → Type 0
IsUsageFault steps text true = Unit {0}
IsUsageFault steps text false = (s : Scenario) × IsWrittenAs text s × (steps_of s.version (names_in s) steps ≡ None)

-- what goes to the output, and that a wrong number of steps is a usage fault whatever the reader has
pub record EndsReplay (steps : List (List ℕ)) (known old new : Option (List ℕ)) (r : Result Bool Fault) : Type 0 where
  pub outputs : Outputs (IsTraceOf steps) (IfSome known (λ text. IsUsageFault steps text (has_wrong_count steps))) (λ e. ⊥) (λ name. ⊥) ⊥ known old new r
  pub counted : IsTrue (has_wrong_count steps) → r ≡ Err fault.Usage

-- what a replay answers has the trace of its run
abbrev pub ReplaysAreTraced : Type 0
ReplaysAreTraced =
    (s : Scenario) (y : Schedule) (r : Replayed) → IsEndOf y r
    → IsTraceOfSchedule s y (trace_text s.version (names_in s) r.history.items r.unit.registry (map ending_of r.ends.items) r.counts.items)
