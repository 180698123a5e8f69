-- A history of which it is planned what is told, and nothing written yet.
use Rattle.std.specs.Prelude.{◌≡◌, ℕ, List, Option, IfSome, Result, Ok, Err}
use Rattle.pr_roles.specs.Scenarios.{scenario_of}
use Rattle.pr_text.specs.Reading.{IsWrittenAs}
use Rattle.pr_trace.specs.TraceReadings.{trace_of}
use Rattle.pr_trace.specs.TraceText.{names_in}
use Rattle.pr_words.specs.Tellings.{IsTold}
use Rattle.fence.specs.declared.traced.Traced.{Traced}
use Rattle.pr_commands.specs.declared.fault.Fault.{Fault}
use Rattle.pr_commands.specs.Audits.{IsTraceFault}
use Rattle.pr_commands.specs.Endings.{IsFault}

-- the text is this scenario, the trace is read as this history, and what is told of it holds
pub record IsOf (text trace : List ℕ) (t : Traced) : Type 0 where
  pub read : IsWrittenAs text (scenario_of t.scenario)
  pub traced : trace_of (scenario_of t.scenario).version (names_in (scenario_of t.scenario)) trace ≡ Ok t.history.items
  pub told : IsTold (scenario_of t.scenario) t.history.items t.telling.illegal

-- what is told of a text and a trace that are known, or their first fault
abbrev pub IsTraced : Option (List ℕ) → Option (List ℕ) → Result Traced Fault → Type 0
IsTraced known traced (Ok t) = IfSome known (λ text. IfSome traced (λ trace. IsOf text trace t))
IsTraced known traced (Err f) =
    IsFault ⊥ (λ e. IfSome known (λ text. IfSome traced (λ trace. IsTraceFault text trace e))) (λ name. ⊥) ⊥ ⊥ known f
