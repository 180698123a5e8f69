-- Agrees with docs/VERDICTS.md, 'What a refusal promises'.
-- Why a scenario is refused: the first reason that the least sound outlines show.
use Rattle.std.specs.Prelude.{◌≡◌, ◌≢◌, ℕ, ◌<◌, min, Some}
use Rattle.pr_script.specs.Scripts.{Stmts}
use Rattle.pr_script.specs.Costs.{cost_of_all}
use Rattle.pr_roles.specs.Scenarios.{Scenario, Scripted, task}
use Rattle.pr_roles.specs.declared.refusal.Refusal.{Refusal}
use Rattle.pr_roles.specs.declared.refusal.Refusal.TheVariants.{NoArm, OutOfRole, OverBudget, Memory, NotSound}
use Rattle.pr_views.specs.Tables.{Outline}
use Rattle.pr_verify.specs.Outlines.{IsCarried, HaveOutlines}
use Rattle.pr_verify.specs.LeastOutlines.{IsLeastSound}
use Rattle.pr_verify.specs.Refusals.{IsRefusal, past_budgets}

-- the first reason against the least sound outline of the host
pub record IsShownByLeast (s : Scenario) (h : ℕ) (script : Stmts) (budget : ℕ) (refusal : Refusal) : Type 0 where
  pub outline : Outline
  pub host : outline.host ≡ h
  pub least : IsLeastSound s script outline
  pub shown : IsRefusal s script budget outline refusal

-- The first reason against the host, by its script and budget. What it costs comes first. Memory is no reason, and a least
-- sound outline is never one that is not sound.
abbrev pub IsReasonAgainst : Scenario → ℕ → Stmts → ℕ → Refusal → Type 0
IsReasonAgainst s h script budget (OverBudget host cost) = (host ≡ h) × (budget < cost_of_all script) × (cost ≡ min past_budgets (cost_of_all script))
IsReasonAgainst s h script budget (OutOfRole host line) = IsShownByLeast s h script budget (OutOfRole host line)
IsReasonAgainst s h script budget (NoArm host line class) = IsShownByLeast s h script budget (NoArm host line class)
IsReasonAgainst s h script budget Memory = ⊥
IsReasonAgainst s h script budget (NotSound host line) = ⊥

-- the host has a script, and this is the first reason against it
pub record HasReason (s : Scenario) (h : ℕ) (refusal : Refusal) : Type 0 where
  pub script : Stmts
  pub budget : ℕ
  pub is : task s h ≡ Some (Scripted script budget)
  pub reason : IsReasonAgainst s h script budget refusal

-- Hosts come in the order of the scenario: each before this one has an outline that is sound and fits.
pub record IsFirstReason (s : Scenario) (refusal : Refusal) : Type 0 where
  pub host : ℕ
  pub reason : HasReason s host refusal
  pub before : (h : ℕ) → h < host → IsCarried s h

-- no sound outlines of the scripted hosts fit, unless memory was refused
abbrev pub IsFinal : Scenario → Refusal → Type 0
IsFinal s refusal = refusal ≢ Memory → ¬ HaveOutlines s

-- what a refusal says: the first reason, unless memory was refused
abbrev pub IsVerdict : Scenario → Refusal → Type 0
IsVerdict s (NoArm host line class) = IsFirstReason s (NoArm host line class)
IsVerdict s (OutOfRole host line) = IsFirstReason s (OutOfRole host line)
IsVerdict s (OverBudget host cost) = IsFirstReason s (OverBudget host cost)
IsVerdict s Memory = Unit {0}
IsVerdict s (NotSound host line) = ⊥
