-- Agrees with docs/FORMATS.md, 'Trace text'.
-- The trace of a run.
use Rattle.std.specs.Prelude.{◌≡◌, ℕ, List, Some, map}
use Rattle.pr_roles.specs.Scenarios.{Scenario}
use Rattle.pr_roles.specs.Schedules.{Schedule}
use Rattle.pr_audit.specs.Ends.{Ending, counts_in, endings}
use Rattle.pr_trace.specs.TraceText.{names_in, trace_text}

-- the text of what a schedule holds at last
pub record IsTraceOf (s : Scenario) (y : Schedule) (text : List ℕ) : Type 0 where
  pub ends : List Ending
  pub standing : map (λ e. Some e) ends ≡ endings y.world.controls y.plans
  pub text_is : text ≡ trace_text s.version (names_in s) y.world.history y.world.unit.registry ends (counts_in y)
