use Rattle.pr_sets.proofs.lemmas.Lattice.{empty_is_the_least}
use Rattle.pr_sets.proofs.laws.empty_is_the_least.Goals as goal

pub returns : goal.returns
returns c = empty_is_the_least
