-- Agrees with docs/VERDICTS.md, '`accepted`'.
-- What outlines promise, and what a reason against a host does.
use Rattle.std.specs.Prelude.{ℕ}
use Rattle.pr_roles.specs.Scenarios.{Scenario, on_shared_paths}
use Rattle.pr_roles.specs.Safety.{IsSafe}
use Rattle.pr_script.specs.Scripts.{Stmts}
use Rattle.pr_roles.specs.declared.refusal.Refusal.{Refusal}
use Rattle.pr_verify.specs.Outlines.{AllSendsFit, HasOutline, HaveOutlines}
use Rattle.pr_verify.specs.Verdicts.{IsReasonAgainst}

-- Outlines that are sound and fit, one for each scripted host, make a scenario safe, and where somebody else may look at the disk
-- by each path too: whatever attentions are taken away from the scripts.
abbrev pub OutlinesMakeSafe : Type 0
OutlinesMakeSafe = (s : Scenario) → AllSendsFit s → HaveOutlines s → IsSafe (on_shared_paths s)

-- A host with a reason against it has no outline that is sound and fits.
abbrev pub ReasonsAreFinal : Type 0
ReasonsAreFinal = (s : Scenario) (h : ℕ) (script : Stmts) (budget : ℕ) (refusal : Refusal) → IsReasonAgainst s h script budget refusal → ¬ HasOutline s h script budget
