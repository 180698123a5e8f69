use Rattle.pr_world.proofs.Common.{scenario_of}
use Rattle.pr_world.proofs.lemmas.Replays.Runs.{IsRunning}
use Rattle.pr_world.proofs.replaying.replay_as.Given as goal

-- the steps so far
abbrev pub invariant-loop-step : goal.invariant-loop-step
invariant-loop-step l = IsRunning (scenario_of l.scenario) l.steps l.step-index l.course
