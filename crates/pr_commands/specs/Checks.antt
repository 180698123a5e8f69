-- Agrees with docs/FORMATS.md, 'Checking'.
-- What `fence check` writes.
use Rattle.std.specs.Prelude.{ℕ, Bool, List, Option, Result}
use Rattle.pr_roles.specs.SafeRuns.{without_premises}
use Rattle.pr_roles.specs.Scenarios.{Scenario, on_shared_paths}
use Rattle.pr_roles.specs.Safety.{IsSafe}
use Rattle.pr_verify.specs.Outlines.{HaveOutlines}
use Rattle.pr_verify.specs.Verdicts.{IsFirstReason}
use Rattle.pr_trace.specs.TraceText.{names_in}
use Rattle.pr_report.specs.Verdicts.{is_refusal, verdict_text}
use Rattle.pr_report.specs.declared.verdict.Verdict.{Verdict}
use Rattle.pr_report.specs.declared.verdict.Verdict.TheVariants.{Accepted, AcceptedBySearch, Refused, Legal, Illegal}
use Rattle.pr_commands.specs.declared.fault.Fault.{Fault}
use Rattle.pr_commands.specs.declared.judging.Method.{Method}
use Rattle.pr_commands.specs.declared.judging.Method.TheVariants.{Outlines, Search}
use Rattle.pr_commands.specs.Endings.{IsAnswerOf, Outputs}

-- A scenario that is accepted by outlines is safe, and where somebody else looks at the disk by the hosts' paths too; its hosts
-- have outlines that are sound and fit. One that is accepted by a search is safe also where the disk reports an attention before it
-- looks at the reservation. One that is refused is so for the first reason that the least sound outlines show. Of histories a check
-- says nothing.
abbrev pub Holds : Method → Scenario → Verdict → Type 0
Holds method s Accepted = IsSafe (on_shared_paths s) × HaveOutlines s
Holds Outlines s (AcceptedBySearch worlds) = ⊥
Holds Search s (AcceptedBySearch worlds) = IsSafe (without_premises s)
Holds method s (Refused reason) = IsFirstReason s reason
Holds method s (Legal items) = ⊥
Holds method s (Illegal place) = ⊥

-- the text is a scenario, and this is the line of a verdict that holds of it
abbrev pub IsVerdictOf : Method → List ℕ → List ℕ → Bool → Type 0
IsVerdictOf method = IsAnswerOf (Holds method) (λ s verdict. verdict_text (names_in s) verdict) is_refusal

-- What goes to the output. There are no words after the command's name that could be at fault, no trace and no thread.
abbrev pub EndsCheck : Method → Option (List ℕ) → Option (List ℕ) → Option (List ℕ) → Result Bool Fault → Type 0
EndsCheck method known old new r = Outputs (IsVerdictOf method) ⊥ (λ e. ⊥) (λ name. ⊥) ⊥ known old new r
