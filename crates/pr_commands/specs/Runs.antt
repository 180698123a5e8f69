-- Agrees with docs/FORMATS.md, 'Running'.
-- What `fence run` writes.
use Rattle.std.specs.Prelude.{◌≡◌, ℕ, ◌<◌, Bool, List, length, map, Option, IfSome, Result, Ok, Err, is_err}
use Rattle.std.specs.List.{range_with_len}
use Rattle.pr_roles.specs.declared.item.Item.{Item}
use Rattle.pr_roles.specs.Scenarios.{Scenario}
use Rattle.pr_roles.specs.Safety.{IsSafe}
use Rattle.pr_roles.specs.Worlds.{commands_by}
use Rattle.pr_text.specs.Reading.{IsWrittenAs}
use Rattle.pr_roles.specs.declared.refusal.Refusal.{Refusal}
use Rattle.pr_verify.specs.Verdicts.{IsFirstReason}
use Rattle.pr_audit.specs.Ends.{ending_of}
use Rattle.pr_shared.specs.declared.outcome.Outcome.{Outcome}
use Rattle.pr_shared.specs.Outcomes.{IsOutcome}
use Rattle.pr_trace.specs.TraceText.{name_of, names_in, trace_text}
use Rattle.pr_report.specs.Verdicts.{verdict_text}
use Rattle.pr_report.specs.declared.verdict.Verdict.TheVariants.{Refused}
use Rattle.pr_commands.specs.declared.fault.Fault.{Fault}
use Rattle.pr_commands.specs.Endings.{IsAnswerOf, Outputs}

-- how many commands of each nexus reached the unit
abbrev pub counts_in : Scenario → List Item → List ℕ
counts_in s history = map (λ h. commands_by history h) (range_with_len 0 (length s.nexuses))

abbrev pub outcome_text : Scenario → Outcome → List ℕ
outcome_text s o =
    trace_text s.version (names_in s) o.history.items o.unit.registry (map ending_of o.ends.items) (counts_in s o.history.items)

-- The scenario is safe, and some run of it came to this outcome: of turns that led from the first start until every script was
-- stopped and every plan done. Or it is refused for its first reason.
abbrev pub Holds : Scenario → Result Outcome Refusal → Type 0
Holds s (Ok outcome) = IsSafe s × IsOutcome s outcome
Holds s (Err reason) = IsFirstReason s reason

-- the trace of that run, or the line of the verdict
abbrev pub answer_text : Scenario → Result Outcome Refusal → List ℕ
answer_text s (Ok outcome) = outcome_text s outcome
answer_text s (Err reason) = verdict_text (names_in s) (Refused reason)

abbrev pub IsRunOf : List ℕ → List ℕ → Bool → Type 0
IsRunOf = IsAnswerOf Holds answer_text is_err

-- the text is a safe scenario, and this is the name of one of its nexuses
pub record IsUnstarted (text name : List ℕ) : Type 0 where
  pub scenario : Scenario
  pub read : IsWrittenAs text scenario
  pub safe : IsSafe scenario
  pub host : ℕ
  pub there : host < length scenario.nexuses
  pub name_is : name ≡ name_of (names_in scenario) host

-- What goes to the output. There are no words after the command's name that could be at fault, and no trace that is read.
abbrev pub EndsRun : Option (List ℕ) → Option (List ℕ) → Option (List ℕ) → Result Bool Fault → Type 0
EndsRun known old new r =
    Outputs IsRunOf ⊥ (λ e. ⊥) (λ name. IfSome known (λ text. IsUnstarted text name)) (Unit {0}) known old new r
