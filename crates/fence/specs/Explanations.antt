-- Agrees with docs/FORMATS.md, 'Explaining'.
-- How `fence explain` ends: as `fence check` does, or `fence audit`. The words are no part of it.
use Rattle.std.specs.Prelude.{◌≡◌, ℕ, Bool, List, Option, IfSome, Result, Ok, Err, is_some}
use Rattle.pr_roles.specs.declared.item.Item.{Item}
use Rattle.pr_roles.specs.Scenarios.{Scenario}
use Rattle.pr_text.specs.Reading.{IsWrittenAs}
use Rattle.pr_trace.specs.TraceReadings.{trace_of}
use Rattle.pr_trace.specs.TraceText.{names_in}
use Rattle.pr_words.specs.Tellings.{IsTold}
use Rattle.pr_commands.specs.declared.fault.Fault.{Fault}
use Rattle.pr_commands.specs.Audits.{IsTraceFault}
use Rattle.pr_commands.specs.Checks.{IsVerdictOf}
use Rattle.pr_commands.specs.declared.judging.Method.TheVariants.{Outlines}
use Rattle.pr_commands.specs.Endings.{IsFault}

-- the text is a scenario, the trace is read as a history under its names, and what is told of it says whether it is illegal
pub record IsTraceTold (trace text : List ℕ) (is_illegal : Bool) : Type 0 where
  pub scenario : Scenario
  pub read : IsWrittenAs text scenario
  pub history : List Item
  pub traced : trace_of scenario.version (names_in scenario) trace ≡ Ok history
  pub illegal : Option ℕ
  pub told : IsTold scenario history illegal
  pub answers : is_illegal ≡ is_some illegal

-- of a text and a trace that are known: whether the trace is illegal, or their first fault
abbrev pub EndsTraceTold : Option (List ℕ) → Option (List ℕ) → Result Bool Fault → Type 0
EndsTraceTold known traced (Ok is_illegal) = IfSome known (λ text. IfSome traced (λ trace. IsTraceTold trace text is_illegal))
EndsTraceTold known traced (Err f) =
    IsFault ⊥ (λ e. IfSome known (λ text. IfSome traced (λ trace. IsTraceFault text trace e))) (λ name. ⊥) ⊥ (Unit {0}) known f

-- of a text that is known: whether its scenario is refused, or its first fault
abbrev pub EndsTold : Option (List ℕ) → Result Bool Fault → Type 0
EndsTold known (Ok refused) = IfSome known (λ text. (line : List ℕ) × IsVerdictOf Outlines text line refused)
EndsTold known (Err f) = IsFault ⊥ (λ e. ⊥) (λ name. ⊥) ⊥ (Unit {0}) known f
