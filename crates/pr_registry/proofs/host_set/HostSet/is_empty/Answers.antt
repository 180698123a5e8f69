use Rattle.pr_registry.proofs.Common.{◌≡◌, ◌<◌, sym, ap, ◌∙◌, arith, nat_tests}
use Rattle.pr_registry.proofs.lemmas.Bits.{of_bits, of_bits-zero, zero_of_nobody}
use Rattle.pr_registry.proofs.host_set.HostSet.is_empty.Goals as goal

pub returns : goal.returns
returns c = (
  λ zero. let is : c.self.inside.bits ≡ 0 = grind (arith, nat_tests) in sym c.self.view_is ∙ ap of_bits is ∙ of_bits-zero,
  λ none. let fits : c.self.inside.bits < 65536 = omega arith in
      let is : c.self.inside.bits ≡ 0 = zero_of_nobody c.self.inside.bits fits (c.self.view_is ∙ none) in grind (arith, nat_tests),
)
