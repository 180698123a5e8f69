use Rattle.pr_roles.proofs.lemmas.Worlds.Resets.{first_version_has_no_reset}
use Rattle.pr_roles.proofs.laws.first_version_has_no_reset.Goals as goal

pub returns : goal.returns
returns c = first_version_has_no_reset
