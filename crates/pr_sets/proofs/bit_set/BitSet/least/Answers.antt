use Rattle.pr_sets.proofs.Common.{◌^◌, ◌<◌, arith}
use Rattle.pr_sets.proofs.lemmas.BitSets.{least_there}
use Rattle.pr_sets.proofs.bit_set.BitSet.least.Goals as goal

pub returns-clause-some : goal.returns-clause-some
returns-clause-some c =
    let fits : c.args.self.bits < 2 ^ 16 = omega arith in
    let some : 0 < c.args.self.bits = omega arith in
    least_there c.args.self some fits
