use Rattle.pr_world.proofs.Common.{scenario_of}
use Rattle.pr_world.specs.Replays.{plain_steps}
use Rattle.pr_world.proofs.lemmas.Replays.Runs.{IsRunning}
use Rattle.pr_world.proofs.replaying.replay.Given as goal

-- the turns so far
abbrev pub invariant-loop-host : goal.invariant-loop-host
invariant-loop-host l = IsRunning (scenario_of l.scenario) (plain_steps l.steps) l.host-index l.course
