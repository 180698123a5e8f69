use Rattle.pr_world.proofs.lemmas.Laws.Replays.{safe_untrapped}
use Rattle.pr_world.proofs.laws.safe_replays_end_untrapped.Goals as goal

pub returns : goal.returns
returns c = safe_untrapped
