use Rattle.pr_roles.proofs.lemmas.Laws.FirstVersion.{first_version_is_plain}
use Rattle.pr_roles.proofs.laws.first_version_is_plain.Goals as goal

pub returns : goal.returns
returns c = first_version_is_plain
