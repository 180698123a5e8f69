use Rattle.pr_sets.proofs.Common.{◌^◌, ◌<◌, arith, w128}
use Rattle.pr_sets.proofs.lemmas.WordBits.{has-except}
use Rattle.pr_sets.proofs.wide.Wide.except.Goals as goal

pub returns : goal.returns
returns c m =
    let fits : c.args.self.bits < 2 ^ 128 = omega arith in
    let other_fits : c.args.other.bits < 2 ^ 128 = omega arith in
    has-except w128 c.args.self.bits c.args.other.bits m fits other_fits
