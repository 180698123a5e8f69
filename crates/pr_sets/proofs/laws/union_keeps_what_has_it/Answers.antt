use Rattle.pr_sets.proofs.lemmas.Lattice.{union_keeps_what_has_it}
use Rattle.pr_sets.proofs.laws.union_keeps_what_has_it.Goals as goal

pub returns : goal.returns
returns c = union_keeps_what_has_it
