use Rattle.pr_world.proofs.Common.{sym, get_or-map, length-map}
use Rattle.pr_roles.specs.declared.how.How.TheVariants as how
use Rattle.pr_roles.specs.declared.step.Step.TheVariants as step
use Rattle.pr_world.specs.Replays.{plain_steps}
use Rattle.pr_world.proofs.lemmas.Replays.Runs.{running_more, plain_replayed}
use Rattle.pr_world.proofs.replaying.replay.Goals as goal

pub loop-host-preserved : goal.loop-host-preserved
loop-host-preserved c =
    running_more _ (plain_steps c.args.steps.now) c.loop-host.host-index (step.Of 0 how.Plain) _ _ _ (rw (length-map c.args.steps.now (λ host. step.Of host how.Plain)) c.loop-host-test.true) c.loop-host.invariant
    (sym (get_or-map (λ host. step.Of host how.Plain) c.args.steps.now c.loop-host.host-index 0)) c.turn.ensures.reached c.turn.ensures.stands c.turn.ensures.room c.turn.ensures.length

pub returns : goal.returns
returns c = plain_replayed _ _ _ _ _ c.loop-host.invariant c.loop-host-test.false c.outcome.ensures
