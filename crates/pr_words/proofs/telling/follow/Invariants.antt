use Rattle.std.proofs.Common.{[]}
use Rattle.pr_roles.specs.Scenarios.{scenario_of}
use Rattle.pr_audit.specs.Auditors.{ActFor, world_at}
use Rattle.pr_words.proofs.telling.follow.Given as goal

-- there is a nexus for each that the scenario declares
abbrev pub invariant-loop-index : goal.invariant-loop-index
invariant-loop-index l = ActFor (scenario_of l.scenario) (world_at l.auditor [])
