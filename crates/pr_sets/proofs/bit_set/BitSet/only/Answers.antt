use Rattle.pr_sets.proofs.Common.{w16}
use Rattle.pr_sets.proofs.lemmas.WordBits.{has-only}
use Rattle.pr_sets.proofs.bit_set.BitSet.only.Goals as goal

pub returns : goal.returns
returns c m = has-only w16 c.args.n m c.requires
