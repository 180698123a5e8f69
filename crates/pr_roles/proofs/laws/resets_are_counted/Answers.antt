use Rattle.pr_roles.proofs.lemmas.Worlds.Resets.{resets_are_counted}
use Rattle.pr_roles.proofs.laws.resets_are_counted.Goals as goal

pub returns : goal.returns
returns c = resets_are_counted
