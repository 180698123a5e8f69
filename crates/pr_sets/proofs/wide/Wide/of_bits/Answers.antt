use Rattle.pr_sets.proofs.Common.{◌<◌, ◌^◌, arith, w128}
use Rattle.pr_sets.proofs.lemmas.BitPlaces.{placed-has}
use Rattle.pr_sets.proofs.wide.Wide.of_bits.Goals as goal

pub returns : goal.returns
returns c n =
    let fits : c.args.bits < 2 ^ 128 = omega (arith, c.ranges.bits) in
    placed-has w128 c.args.bits n fits
