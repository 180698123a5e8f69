use Rattle.pr_sets.proofs.lemmas.Lattice.{union_is_the_least_above}
use Rattle.pr_sets.proofs.laws.union_is_the_least_above.Goals as goal

pub returns : goal.returns
returns c = union_is_the_least_above
