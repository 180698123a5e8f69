use Rattle.pr_sets.proofs.Common.{w16}
use Rattle.pr_sets.proofs.lemmas.WordBits.{has-below}
use Rattle.pr_sets.proofs.bit_set.BitSet.below.Goals as goal

pub returns : goal.returns
returns c n = has-below w16 c.args.size n c.requires
