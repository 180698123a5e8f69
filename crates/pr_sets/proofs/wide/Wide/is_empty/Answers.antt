use Rattle.pr_sets.proofs.Common.{◌^◌, ◌<◌, arith, w128, trailing_zeros, nat_tests}
use Rattle.pr_sets.proofs.lemmas.Wides.{some_there}
use Rattle.pr_sets.proofs.wide.Wide.is_empty.Goals as goal

pub returns-clause-filled : goal.returns-clause-filled
returns-clause-filled c filled =
    let fits : c.args.self.bits < 2 ^ 128 = omega arith in
    let some : 0 < c.args.self.bits = grind (arith, nat_tests) in
    (trailing_zeros w128 c.args.self.bits, some_there c.args.self some fits)
