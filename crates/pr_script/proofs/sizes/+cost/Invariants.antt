-- What the statements or arms before this one cost.
use Rattle.pr_script.proofs.Common.{◌≡◌, ◌+◌, min, take, cost_of_all, greatest, statements_in, arms_in}
use Rattle.pr_script.specs.declared.limits.TheConstants.{MOST_BUDGET}
use Rattle.pr_script.proofs.sizes.+cost.Given as goal

abbrev pub invariant-cost-loop-statement : goal.invariant-cost-loop-statement
invariant-cost-loop-statement l = l.total ≡ min (MOST_BUDGET + 1) (cost_of_all (statements_in (take l.statement-index l.statement-items)))

abbrev pub invariant-greatest_cost-loop-arm : goal.invariant-greatest_cost-loop-arm
invariant-greatest_cost-loop-arm l = l.most ≡ min (MOST_BUDGET + 1) (greatest (arms_in (take l.arm-index l.arms)))
