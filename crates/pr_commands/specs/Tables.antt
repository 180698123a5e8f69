-- Agrees with docs/FORMATS.md, 'Tables'.
-- What `fence table` writes.
use Rattle.std.specs.Prelude.{◌≡◌, ℕ, Bool, if◌then◌else◌, List, Option, Some, None, IfSome, option_and_then, Result}
use Rattle.pr_roles.specs.Scenarios.{Scenario, task}
use Rattle.pr_text.specs.Reading.{IsWrittenAs}
use Rattle.pr_trace.specs.TraceReadings.{number_of}
use Rattle.pr_trace.specs.TraceText.{names_in}
use Rattle.pr_report.specs.Verdicts.{is_refusal, verdict_text}
use Rattle.pr_report.specs.declared.verdict.Verdict.{Verdict}
use Rattle.pr_report.specs.declared.verdict.Verdict.TheVariants.{Accepted, AcceptedBySearch, Refused, Legal, Illegal}
use Rattle.pr_table.specs.TableText.{host_table_text}
use Rattle.pr_commands.specs.declared.fault.Fault.{Fault}
use Rattle.pr_commands.specs.declared.judging.Method.{Method}
use Rattle.pr_roles.specs.Tasks.{has_script}
use Rattle.pr_commands.specs.Checks.{Holds}
use Rattle.pr_commands.specs.Endings.{IsAnswerOf, Outputs}

abbrev pub if_scripted : Scenario → ℕ → Option ℕ
if_scripted s h = if has_script (task s h) then Some h else None

-- the number of the host with this name
abbrev pub scripted_host : Scenario → List ℕ → Option ℕ
scripted_host s name = option_and_then (if_scripted s) (number_of (names_in s) name)

-- the host's table where the scenario is accepted, and else the line of the verdict
abbrev pub answer_text : Scenario → ℕ → Verdict → List ℕ
answer_text s h Accepted = host_table_text s h
answer_text s h (AcceptedBySearch worlds) = host_table_text s h
answer_text s h (Refused reason) = verdict_text (names_in s) (Refused reason)
answer_text s h (Legal items) = verdict_text (names_in s) (Legal items)
answer_text s h (Illegal place) = verdict_text (names_in s) (Illegal place)

-- the host has this name, and the verdict holds
abbrev pub HoldsFor : Method → List ℕ → Scenario → ℕ × Verdict → Type 0
HoldsFor method name s a = (scripted_host s name ≡ Some a.0) × Holds method s a.1

-- the text is a scenario with a host of this name, and these are the lines by a verdict that holds of it
abbrev pub IsTableOf : Method → List ℕ → List ℕ → List ℕ → Bool → Type 0
IsTableOf method name = IsAnswerOf (HoldsFor method name) (λ s a. answer_text s a.0 a.1) (λ a. is_refusal a.1)

-- the text is a scenario, in which no host has this name
abbrev pub IsMisnamed : List ℕ → List ℕ → Type 0
IsMisnamed name text = (s : Scenario) × IsWrittenAs text s × (scripted_host s name ≡ None)

-- What goes to the output. There is no trace and no thread.
abbrev pub EndsTable : Method → List ℕ → Option (List ℕ) → Option (List ℕ) → Option (List ℕ) → Result Bool Fault → Type 0
EndsTable method name known old new r = Outputs (IsTableOf method name) (IfSome known (IsMisnamed name)) (λ e. ⊥) (λ name. ⊥) ⊥ known old new r
