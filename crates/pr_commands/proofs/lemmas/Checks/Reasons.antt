-- Of reasons for a refusal.
use Rattle.pr_commands.proofs.Common.{refl, Scenario}
use Rattle.std.proofs.Common.{◌≢◌}
use Rattle.pr_roles.specs.declared.refusal.Refusal.{Refusal}
use Rattle.pr_roles.specs.declared.refusal.Refusal.TheVariants.{NoArm, OutOfRole, OverBudget, Memory, NotSound}
use Rattle.pr_verify.specs.Verdicts.{IsFirstReason, IsVerdict}
use Rattle.pr_report.specs.Verdicts.{IsReason}

-- what is said of a scenario, and is not that memory was refused, is its first reason
pub first_reason : (s : Scenario) (refusal : Refusal) → IsVerdict s refusal → refusal ≢ Memory → IsFirstReason s refusal
first_reason s (NoArm host line class) is other = is
first_reason s (OutOfRole host line) is other = is
first_reason s (OverBudget host cost) is other = is
first_reason s Memory is other = absurd (other refl)
first_reason s (NotSound host line) is other = absurd is

-- memory is no reason
pub is_reason : (s : Scenario) (refusal : Refusal) → IsFirstReason s refusal → IsReason refusal
is_reason s (NoArm host line class) is = tt
is_reason s (OutOfRole host line) is = tt
is_reason s (OverBudget host cost) is = tt
is_reason s Memory is = absurd is.reason.reason
is_reason s (NotSound host line) is = tt
