-- Of what scripts cost.
use Rattle.std.proofs.Common.{◌≡◌, List, map, sym, ◌∙◌}
use Rattle.std.specs.Prelude.{Option}
use Rattle.std.proofs.lemmas.Simd.{map-map}
use Rattle.pr_roles.specs.declared.parts.Parts.{Parts}
use Rattle.pr_roles.specs.Scenarios.{Nexus, nexus_of, scenario_of, task_of}
use Rattle.pr_explain.specs.declared.costing.Cost.{Cost}
use Rattle.pr_explain.specs.Costs.{cost_of}

-- the costs by the nexuses as they are kept are those by the nexuses of the scenario
pub costs_in : (p : Parts) (costs : List (Option Cost)) → costs ≡ map (λ n. cost_of (task_of n.task)) p.nexuses.items → costs ≡ map (λ n. cost_of n.task) (scenario_of p).nexuses
unfolding scenario_of
costs_in p costs same = same ∙ sym (map-map (λ (n : Nexus). cost_of n.task) nexus_of p.nexuses.items)
