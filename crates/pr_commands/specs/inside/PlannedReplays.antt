-- A replay that is done, and not written yet.
use Rattle.std.specs.Prelude.{◌≡◌, ℕ, Bool, IsTrue, List, map, Option, IfSome, Result, Ok, Err}
use Rattle.std.specs.List.{list_any}
use Rattle.pr_roles.specs.Scenarios.{scenario_of}
use Rattle.pr_audit.specs.Ends.{ending_of, is_trapped_end}
use Rattle.pr_trace.specs.TraceText.{names_in, trace_text}
use Rattle.pr_commands.specs.declared.replays.Planned.{Planned}
use Rattle.pr_commands.specs.declared.fault.Fault.{Fault}
use Rattle.pr_commands.specs.declared.fault.Fault.TheVariants as fault
use Rattle.pr_commands.specs.Steps.{has_wrong_count}
use Rattle.pr_commands.specs.Replays.{IsTraceOf, IsUsageFault}
use Rattle.pr_commands.specs.inside.EarlyFaults.{IsEarlyFault}

-- the text of the trace of what is planned, and whether a host is trapped
abbrev pub planned_text : Planned → List ℕ
planned_text p =
    trace_text (scenario_of p.scenario).version (names_in (scenario_of p.scenario)) p.replayed.history.items p.replayed.unit.registry (map ending_of p.replayed.ends.items) p.replayed.counts.items

abbrev pub is_refused : Planned → Bool
is_refused p = list_any is_trapped_end p.replayed.ends.items

-- Over a text that is known: the trace of its replay, or its first fault. A wrong number of steps is found
-- before the text is read.
abbrev pub Plans : List (List ℕ) → Option (List ℕ) → Result Planned Fault → Type 0
Plans steps known (Ok p) = IfSome known (λ text. IsTraceOf steps text (planned_text p) (is_refused p))
Plans steps known (Err f) = IsEarlyFault (IfSome known (λ text. IsUsageFault steps text (has_wrong_count steps))) (λ e. ⊥) (λ name. ⊥) ⊥ known f

pub record IsPlanned (steps : List (List ℕ)) (known : Option (List ℕ)) (r : Result Planned Fault) : Type 0 where
  pub plans : Plans steps known r
  pub counted : IsTrue (has_wrong_count steps) → r ≡ Err fault.Usage
