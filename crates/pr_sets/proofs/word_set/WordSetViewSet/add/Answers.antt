use Rattle.pr_sets.proofs.Common.{arith, w128}
use Rattle.pr_sets.proofs.lemmas.Members.{AllBelow-insert}
use Rattle.pr_sets.proofs.lemmas.BitPlaces.{placed-insert}
use Rattle.pr_sets.proofs.word_set.WordSetViewSet.add.Goals as goal

pub invariant_of-self-clause-below : goal.invariant_of-self-clause-below
invariant_of-self-clause-below c =
    rw (placed-insert w128 c.args.self.now.bits c.args.n (omega (arith, c.requires.below, c.args.self.now.few))) (AllBelow-insert _ _ c.args.n c.requires.below c.args.self.now.below)

pub returns-clause-members : goal.returns-clause-members
returns-clause-members c = placed-insert w128 c.args.self.now.bits c.args.n (omega (arith, c.requires.below, c.args.self.now.few))
