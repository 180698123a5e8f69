use Rattle.pr_script.proofs.lemmas.Next.Settlement
use Rattle.pr_script.proofs.laws.settles.Goals as goal

pub returns : goal.returns
returns c = Settlement.settles
