use Rattle.pr_sets.proofs.Common.{ℕ, subst, w128, numbers_of_bits}
use Rattle.pr_sets.specs.Numbers.{AllBelow}
use Rattle.pr_sets.proofs.lemmas.Members.{AllBelow-union}
use Rattle.pr_sets.proofs.lemmas.BitPlaces.{placed-union}
use Rattle.pr_sets.proofs.word_set.WordSetViewSet.join.Goals as goal

pub invariant_of-self-clause-below : goal.invariant_of-self-clause-below
invariant_of-self-clause-below c =
    rw (placed-union w128 c.args.self.now.bits c.args.other.now.bits) (AllBelow-union _ _ _ c.args.self.now.below
    (subst (λ (size : ℕ). AllBelow size (numbers_of_bits c.args.other.now.bits)) c.requires.alike c.args.other.now.below))

pub returns-clause-members : goal.returns-clause-members
returns-clause-members c = placed-union w128 c.args.self.now.bits c.args.other.now.bits
