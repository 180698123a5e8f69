use Rattle.pr_witness.proofs.Common.{◌≡◌, [], take, Some, map, scenario_of, world_at, ending_of}
use Rattle.pr_roles.specs.Schedules.{plan_of}
use Rattle.pr_audit.specs.Ends.{endings}
use Rattle.pr_witness.proofs.certifying.ends_of.Given as goal

-- how those before this one stand
abbrev pub invariant-loop-host : goal.invariant-loop-host
invariant-loop-host l =
    map (λ e. Some (ending_of e)) l.ends.items
    ≡ take l.host (endings (world_at l.auditor []).controls (map (λ n. plan_of n.task) (scenario_of l.scenario).nexuses))
