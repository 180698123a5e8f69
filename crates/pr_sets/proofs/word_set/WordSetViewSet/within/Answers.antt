use Rattle.pr_sets.proofs.Common.{◌≡◌, ◌<◌, ◌^◌, arith, bit_and, w128, bit_not, nat_tests}
use Rattle.std.proofs.lemmas.Nat.{and_le_l}
use Rattle.pr_sets.proofs.lemmas.Bits.{within_from_none_left, none_left_from_within}
use Rattle.pr_sets.proofs.word_set.WordSetViewSet.within.Goals as goal

pub returns : goal.returns
returns c =
    let fits : c.args.other.now.bits < 2 ^ 128 = omega arith in
    let left_fits : bit_and c.args.self.now.bits (bit_not w128 c.args.other.now.bits) < 2 ^ 128 =
    omega (arith, and_le_l c.args.self.now.bits (bit_not w128 c.args.other.now.bits)) in (
      λ none. let is : bit_and c.args.self.now.bits (bit_not w128 c.args.other.now.bits) ≡ 0 = grind (arith, nat_tests) in
          within_from_none_left c.args.self.now.bits c.args.other.now.bits fits is,
      λ within. let is = none_left_from_within c.args.self.now.bits c.args.other.now.bits fits left_fits within in grind (arith, nat_tests),
    )
