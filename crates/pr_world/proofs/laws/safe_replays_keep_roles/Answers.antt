use Rattle.pr_world.proofs.lemmas.Laws.Replays.{safe_roles}
use Rattle.pr_world.proofs.laws.safe_replays_keep_roles.Goals as goal

pub returns : goal.returns
returns c = safe_roles
