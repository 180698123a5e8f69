use Rattle.pr_world.proofs.lemmas.Laws.Replays.{safe_budgets}
use Rattle.pr_world.proofs.laws.safe_replays_keep_budgets.Goals as goal

pub returns : goal.returns
returns c = safe_budgets
