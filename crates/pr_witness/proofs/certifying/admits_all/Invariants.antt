use Rattle.pr_witness.proofs.Common.{[], take, UnitState, scenario_of, ActFor, world_at}
use Rattle.pr_witness.specs.inside.Following.{IsFollowed}
use Rattle.pr_witness.proofs.certifying.admits_all.Given as goal

-- the auditor is past the items before this one
abbrev pub invariant-loop-index : goal.invariant-loop-index
invariant-loop-index l = record {
  acts : ActFor (scenario_of l.scenario) (world_at l.auditor []);
  followed : (u : UnitState) → IsFollowed (scenario_of l.scenario) u [] (world_at l.fn.auditor []) → IsFollowed (scenario_of l.scenario) u (take l.index l.items) (world_at l.auditor (take l.index l.items));
}
