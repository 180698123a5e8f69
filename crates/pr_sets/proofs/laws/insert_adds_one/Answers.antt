use Rattle.pr_sets.proofs.lemmas.Lattice.{insert_adds_one}
use Rattle.pr_sets.proofs.laws.insert_adds_one.Goals as goal

pub returns : goal.returns
returns c = insert_adds_one
