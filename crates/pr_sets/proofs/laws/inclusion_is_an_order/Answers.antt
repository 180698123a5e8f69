use Rattle.pr_sets.proofs.lemmas.Lattice.{inclusion_is_an_order}
use Rattle.pr_sets.proofs.laws.inclusion_is_an_order.Goals as goal

pub returns : goal.returns
returns c = inclusion_is_an_order
