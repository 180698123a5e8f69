use Rattle.pr_sets.proofs.Common.{◌^◌, ◌<◌, arith}
use Rattle.pr_sets.proofs.lemmas.BitSets.{has-without}
use Rattle.pr_sets.proofs.bit_set.BitSet.without.Goals as goal

pub returns : goal.returns
returns c m =
    let fits : c.args.self.bits < 2 ^ 16 = omega arith in
    has-without c.args.self.bits c.args.n m fits c.requires
