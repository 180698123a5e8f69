-- Agrees with docs/VERDICTS.md, 'In words: `fence explain`'.
-- What is said of a scenario: that it is accepted, or that it is refused and why.
use Rattle.std.specs.Prelude.{◌≡◌, Bool, true, false, map}
use Rattle.pr_roles.specs.declared.parts.Parts.{Parts}
use Rattle.pr_roles.specs.Scenarios.{Scenario, on_shared_paths}
use Rattle.pr_roles.specs.Safety.{IsSafe}
use Rattle.pr_views.specs.Tables.{table_of}
use Rattle.pr_verify.specs.Tables.{AreTables}
use Rattle.pr_verify.specs.Verdicts.{IsFirstReason}
use Rattle.pr_explain.specs.declared.plan.Explanation.{Explanation}
use Rattle.pr_explain.specs.declared.plan.Explanation.TheVariants.{Accepted, Refused}
use Rattle.pr_explain.specs.Costs.{cost_of}

abbrev pub scenario_in : Explanation → Parts
scenario_in (Accepted it) = it.scenario
scenario_in (Refused it) = it.scenario

abbrev pub is_refusal : Explanation → Bool
is_refusal (Accepted it) = false
is_refusal (Refused it) = true

-- Of one that is accepted: it is safe, whoever else looks at the disk by its paths, and these are the costs of its scripts. Of one
-- that is refused: this is the first reason that the least sound outlines show, and the tables are of these outlines.
abbrev pub Holds : Scenario → Explanation → Type 0
Holds s (Accepted it) = IsSafe (on_shared_paths s) × (it.costs.items ≡ map (λ n. cost_of n.task) s.nexuses)
Holds s (Refused it) = IsFirstReason s it.refusal × AreTables s (map table_of it.tables.items)
