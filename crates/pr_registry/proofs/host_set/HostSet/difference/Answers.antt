use Rattle.pr_registry.proofs.Common.{◌<◌, ◌∙◌, arith}
use Rattle.std.specs.FinSet as set
use Rattle.pr_registry.proofs.lemmas.Bits.{of_bits-difference}
use Rattle.pr_registry.proofs.host_set.HostSet.difference.Goals as goal

pub returns : goal.returns
returns c =
    let fits : c.other.inside.bits < 65536 = omega arith in
    of_bits-difference c.self.inside.bits c.other.inside.bits fits ∙ (λ i. set.difference (c.self.view_is i) (c.other.view_is i))
