use Rattle.pr_sets.proofs.Common.{◌≡◌, ◌<◌, ◌^◌, ap, ◌∙◌, arith, w128, nat_tests, numbers_of_bits}
use Rattle.pr_sets.proofs.lemmas.BitPlaces.{placed-zero, zero_from_empty}
use Rattle.pr_sets.proofs.word_set.WordSetViewSet.is_empty.Goals as goal

pub returns : goal.returns
returns c = (
  λ zero. let is : c.args.self.now.bits ≡ 0 = grind (arith, nat_tests) in ap numbers_of_bits is ∙ placed-zero w128,
  λ none. let fits : c.args.self.now.bits < 2 ^ 128 = omega arith in
      let is = zero_from_empty w128 c.args.self.now.bits fits none in grind (arith, nat_tests),
)
