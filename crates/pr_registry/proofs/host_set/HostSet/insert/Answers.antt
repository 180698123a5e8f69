use Rattle.pr_registry.proofs.Common.{ap, ◌∙◌}
use Rattle.std.specs.FinSet as set
use Rattle.pr_registry.proofs.lemmas.Bits.{of_bits-insert}
use Rattle.pr_registry.proofs.host_set.HostSet.insert.Goals as goal

pub returns : goal.returns
returns c = of_bits-insert c.self.inside.bits c.args.host c.requires ∙ ap (λ s. set.insert s c.args.host) c.self.view_is
