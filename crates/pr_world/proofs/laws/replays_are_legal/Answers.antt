use Rattle.pr_world.proofs.lemmas.Laws.Replays.{replay_is_legal}
use Rattle.pr_world.proofs.laws.replays_are_legal.Goals as goal

pub returns : goal.returns
returns c = replay_is_legal
