use Rattle.pr_roles.proofs.lemmas.Worlds.Refusals.{refusals_are_counted}
use Rattle.pr_roles.proofs.laws.refusals_are_counted.Goals as goal

pub returns : goal.returns
returns c = refusals_are_counted
