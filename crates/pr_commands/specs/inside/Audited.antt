-- A history that was audited, and its verdict not written yet.
use Rattle.std.specs.Prelude.{ℕ, List, Option, IfSome, Result, Ok, Err}
use Rattle.pr_roles.specs.Scenarios.{scenario_of}
use Rattle.pr_text.specs.Reading.{IsWrittenAs}
use Rattle.pr_report.specs.Verdicts.{IsVerdict}
use Rattle.pr_commands.specs.declared.audits.Audited.{Audited}
use Rattle.pr_commands.specs.declared.fault.Fault.{Fault}
use Rattle.pr_commands.specs.Audits.{HoldsOfTrace, IsTraceFault}
use Rattle.pr_commands.specs.inside.EarlyFaults.{IsEarlyFault}

-- the text is this scenario, and the verdict holds of it and the trace
abbrev pub IsOf : List ℕ → List ℕ → Audited → Type 0
IsOf text trace a = IsWrittenAs text (scenario_of a.scenario) × HoldsOfTrace trace (scenario_of a.scenario) a.verdict

-- the verdict on a text and a trace that are known, or their first fault
abbrev pub IsAudited : Option (List ℕ) → Option (List ℕ) → Result Audited Fault → Type 0
IsAudited known traced (Ok a) = IfSome known (λ text. IfSome traced (λ trace. IsOf text trace a)) × IsVerdict a.verdict
IsAudited known traced (Err f) =
    IsEarlyFault ⊥ (λ e. IfSome known (λ text. IfSome traced (λ trace. IsTraceFault text trace e))) (λ name. ⊥) ⊥ known f
