use Rattle.pr_sets.proofs.Common.{◌^◌, ◌<◌, arith, w16, trailing_zeros, nat_tests}
use Rattle.pr_sets.proofs.lemmas.BitSets.{least_there}
use Rattle.pr_sets.proofs.bit_set.BitSet.is_empty.Goals as goal

pub returns-clause-filled : goal.returns-clause-filled
returns-clause-filled c filled =
    let fits : c.args.self.bits < 2 ^ 16 = omega arith in
    let some : 0 < c.args.self.bits = grind (arith, nat_tests) in
    (trailing_zeros w16 c.args.self.bits, (least_there c.args.self some fits).there)
