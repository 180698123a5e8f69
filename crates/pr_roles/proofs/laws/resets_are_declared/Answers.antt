use Rattle.pr_roles.proofs.lemmas.Worlds.Resets.{resets_are_declared}
use Rattle.pr_roles.proofs.laws.resets_are_declared.Goals as goal

pub returns : goal.returns
returns c = resets_are_declared
