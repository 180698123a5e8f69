-- Agrees with docs/VERDICTS.md, '`refused OverBudget`'.
-- What a script costs, beside its budget.
use Rattle.std.specs.Prelude.{◌+◌, min, Option, Some, None}
use Rattle.pr_script.specs.declared.limits.TheConstants.{MOST_BUDGET}
use Rattle.pr_script.specs.Costs.{cost_of_all}
use Rattle.pr_roles.specs.Scenarios.{Task, Scripted, Planned}
use Rattle.pr_explain.specs.declared.costing.Cost.{Cost}

-- a guest has no script
abbrev pub cost_of : Task → Option Cost
cost_of (Scripted script budget) = Some (record { cost = min (MOST_BUDGET + 1) (cost_of_all script); budget = budget })
cost_of (Planned commands) = None
