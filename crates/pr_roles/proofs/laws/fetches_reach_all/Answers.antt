use Rattle.pr_roles.proofs.lemmas.Worlds.Fetches.{fetches_reach_all}
use Rattle.pr_roles.proofs.laws.fetches_reach_all.Goals as goal

pub returns : goal.returns
returns c = fetches_reach_all
