use Rattle.std.proofs.Common.{◌≡◌, map, take}
use Rattle.pr_roles.specs.Scenarios.{task_of}
use Rattle.pr_explain.specs.Costs.{cost_of}
use Rattle.pr_explain.proofs.costing.costs.Given as goal

-- what those before this one cost
abbrev pub invariant-loop-nexus : goal.invariant-loop-nexus
invariant-loop-nexus l = l.costs.items ≡ map (λ n. cost_of (task_of n.task)) (take l.nexus-index l.nexuses)
