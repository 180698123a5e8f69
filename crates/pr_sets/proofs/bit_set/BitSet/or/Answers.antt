use Rattle.pr_sets.proofs.lemmas.WordBits.{has-or}
use Rattle.pr_sets.proofs.bit_set.BitSet.or.Goals as goal

pub returns : goal.returns
returns c m = has-or c.args.self.bits c.args.other.bits m
