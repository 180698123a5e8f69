-- A scenario that was judged for the table of a host, and nothing written yet.
use Rattle.std.specs.Prelude.{◌≡◌, ℕ, List, Option, Some, IfSome, Result, Ok, Err}
use Rattle.pr_roles.specs.Scenarios.{Scenario, scenario_of, task}
use Rattle.pr_roles.specs.Tasks.{IsScripted}
use Rattle.pr_text.specs.Reading.{IsWrittenAs}
use Rattle.pr_commands.specs.declared.fault.Fault.{Fault}
use Rattle.pr_commands.specs.declared.judging.Method.{Method}
use Rattle.pr_commands.specs.declared.tables.JudgedHost.{JudgedHost}
use Rattle.pr_commands.specs.Tables.{IsMisnamed, answer_text, scripted_host}
use Rattle.pr_commands.specs.inside.EarlyFaults.{IsEarlyFault}
use Rattle.pr_commands.specs.inside.Judgements as judged

abbrev pub scenario_in : JudgedHost → Scenario
scenario_in t = scenario_of (judged.scenario_in t.judgement)

-- the host has this name and a script, and the verdict stands
pub record StandsFor (method : Method) (name : List ℕ) (t : JudgedHost) : Type 0 where
  pub found : scripted_host (scenario_in t) name ≡ Some t.host
  pub scripted : IsScripted (task (scenario_in t) t.host)
  pub stands : judged.Stands method t.judgement

abbrev pub answered_text : JudgedHost → List ℕ
answered_text t = answer_text (scenario_in t) t.host (judged.verdict_in t.judgement)

-- of the scenario of a text that is known, or its first fault
abbrev pub IsJudgedFor : Method → List ℕ → Option (List ℕ) → Result JudgedHost Fault → Type 0
IsJudgedFor method name known (Ok t) = IfSome known (λ text. IsWrittenAs text (scenario_in t)) × StandsFor method name t
IsJudgedFor method name known (Err f) = IsEarlyFault (IfSome known (IsMisnamed name)) (λ e. ⊥) (λ name. ⊥) ⊥ known f
