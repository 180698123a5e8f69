use Rattle.pr_sets.proofs.Common.{ap, length, arith}
use Rattle.pr_sets.proofs.lemmas.Members.{AllBelow-empty}
use Rattle.pr_sets.proofs.list_set.ListSetViewSet.none.Goals as goal

pub invariant_of-result-clause-sorted : goal.invariant_of-result-clause-sorted
invariant_of-result-clause-sorted c k within = absurd (omega (arith, ap length c.new.ensures.items))

pub invariant_of-result-clause-below : goal.invariant_of-result-clause-below
invariant_of-result-clause-below c = rw c.new.ensures.items (AllBelow-empty c.args.size)
