-- Rows of a table while they are made, and what is found of its host.
use Rattle.std.specs.Prelude.{◌≡◌, ℕ, ◌<◌, ◌≤◌, Option, Some, None}
use Rattle.pr_cdb.specs.declared.reply.Sense.{Sense}
use Rattle.pr_script.specs.Costs.{cost_of_all}
use Rattle.pr_script.specs.Scripts.{Stmts}
use Rattle.pr_script.specs.declared.landing.Class.{Class}
use Rattle.pr_script.specs.declared.landing.Class.TheVariants.{Sense as WithSense}
use Rattle.pr_roles.specs.Scenarios.{Scenario}
use Rattle.pr_roles.specs.declared.refusal.Refusal.{Refusal}
use Rattle.pr_verify.specs.Outlines.{IsCarried, HostSendsFit}
use Rattle.pr_verify.specs.Verdicts.{IsReasonAgainst, HasReason}

-- where it is a sense, its fields are in the ranges of their types
abbrev pub IsInRange : Class → Type 0
IsInRange class = (sense : Sense) → class ≡ WithSense sense → (sense.key < 256) × (sense.asc < 256) × (sense.ascq < 256)

-- ---- what is found of a host

-- the script is within the budget, or this is the reason against the host
abbrev pub IsCosted : Scenario → ℕ → Stmts → ℕ → Option Refusal → Type 0
IsCosted s h script budget None = cost_of_all script ≤ budget
IsCosted s h script budget (Some refusal) = IsReasonAgainst s h script budget refusal

-- the host has an outline that is sound and fits, if it has a script, and what it sends is in range; or this is a reason against it
abbrev pub IsJudgement : Scenario → ℕ → Option Refusal → Type 0
IsJudgement s h None = IsCarried s h × HostSendsFit s h
IsJudgement s h (Some refusal) = HasReason s h refusal
