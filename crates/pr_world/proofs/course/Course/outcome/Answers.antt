use Rattle.pr_world.proofs.Common.{refl}
use Rattle.pr_world.proofs.lemmas.Replays.Runs.{outcome_of}
use Rattle.pr_world.proofs.course.Course.outcome.Goals as goal

pub returns : goal.returns
returns c =
    outcome_of c.args.self _ _ _ _ c.deref.ensures.value c.deref-2.ensures.value c.len.ensures refl refl c.in_ok-ends.ensures c.in_ok-counts.ensures
