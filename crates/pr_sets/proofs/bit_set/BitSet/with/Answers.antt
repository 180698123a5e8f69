use Rattle.pr_sets.proofs.Common.{w16}
use Rattle.pr_sets.proofs.lemmas.WordBits.{has-with}
use Rattle.pr_sets.proofs.bit_set.BitSet.with.Goals as goal

pub returns : goal.returns
returns c m = has-with w16 c.args.self.bits c.args.n m c.requires
