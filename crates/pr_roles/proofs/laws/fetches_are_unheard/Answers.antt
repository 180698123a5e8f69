use Rattle.pr_roles.proofs.lemmas.Worlds.Fetches.{fetches_are_unheard}
use Rattle.pr_roles.proofs.laws.fetches_are_unheard.Goals as goal

pub returns : goal.returns
returns c = fetches_are_unheard
