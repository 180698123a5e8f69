use Rattle.pr_sets.proofs.Common.{w128}
use Rattle.pr_sets.proofs.lemmas.Members.{AllBelow-empty}
use Rattle.pr_sets.proofs.lemmas.BitPlaces.{placed-zero}
use Rattle.pr_sets.proofs.word_set.WordSetViewSet.none.Goals as goal

pub invariant_of-result-clause-below : goal.invariant_of-result-clause-below
invariant_of-result-clause-below c = rw (placed-zero w128) (AllBelow-empty c.args.size)

pub returns-clause-members : goal.returns-clause-members
returns-clause-members c = placed-zero w128
