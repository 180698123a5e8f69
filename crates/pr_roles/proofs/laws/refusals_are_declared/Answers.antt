use Rattle.pr_roles.proofs.lemmas.Worlds.Refusals.{refusals_are_declared}
use Rattle.pr_roles.proofs.laws.refusals_are_declared.Goals as goal

pub returns : goal.returns
returns c = refusals_are_declared
