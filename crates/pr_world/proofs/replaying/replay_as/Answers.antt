use Rattle.pr_world.proofs.Common.{refl}
use Rattle.pr_world.proofs.lemmas.Replays.Runs.{running_more, replayed}
use Rattle.pr_world.proofs.replaying.replay_as.Goals as goal

pub loop-step-preserved : goal.loop-step-preserved
loop-step-preserved c =
    running_more _ _ _ _ _ _ _ c.loop-step-test.true c.loop-step.invariant refl c.advance.ensures.reached c.advance.ensures.stands c.advance.ensures.room c.advance.ensures.length

pub returns : goal.returns
returns c = replayed _ _ _ _ _ c.loop-step.invariant c.loop-step-test.false c.outcome.ensures
