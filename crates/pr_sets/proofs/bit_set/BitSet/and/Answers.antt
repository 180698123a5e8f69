use Rattle.pr_sets.proofs.lemmas.WordBits.{has-and}
use Rattle.pr_sets.proofs.bit_set.BitSet.and.Goals as goal

pub returns : goal.returns
returns c m = has-and c.args.self.bits c.args.other.bits m
