use Rattle.pr_registry.proofs.Common.{◌≡◌, false, nat_lt, sym, ap, ◌∙◌, arith, nat_tests}
use Rattle.std.proofs.Common.{w16}
use Rattle.std.specs.FinSet as set
use Rattle.pr_sets.proofs.lemmas.BitPlaces.{placed-tested, contains-placed_above}
use Rattle.pr_registry.proofs.lemmas.Bits.{of_bits-placed}
use Rattle.pr_registry.proofs.host_set.HostSet.has.Goals as goal

pub returns-then-host-lt16 : goal.returns-then-host-lt16
returns-then-host-lt16 c =
    placed-tested w16 c.self.inside.bits c.args.host c.if-host-lt16.true
    ∙ ap (λ s. set.contains s c.args.host) (sym (of_bits-placed c.self.inside.bits) ∙ c.self.view_is)

pub returns-else-host-lt16 : goal.returns-else-host-lt16
returns-else-host-lt16 c =
    let above : nat_lt c.args.host 16 ≡ false = grind (arith, nat_tests) in
    above ∙ sym (contains-placed_above w16 c.self.inside.bits c.args.host c.if-host-lt16.false)
    ∙ ap (λ s. set.contains s c.args.host) (sym (of_bits-placed c.self.inside.bits) ∙ c.self.view_is)
