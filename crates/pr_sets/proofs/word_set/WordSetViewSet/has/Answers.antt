use Rattle.pr_sets.proofs.Common.{w128}
use Rattle.pr_sets.proofs.lemmas.BitPlaces.{placed-tested}
use Rattle.pr_sets.proofs.word_set.WordSetViewSet.has.Goals as goal

pub returns-then-n-lt-MOST : goal.returns-then-n-lt-MOST
returns-then-n-lt-MOST c = placed-tested w128 c.args.self.now.bits c.args.n c.if-n-lt-MOST.true
