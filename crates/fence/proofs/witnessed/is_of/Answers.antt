use Rattle.std.proofs.Common.{ap, arith, ◌∙◌}
use Rattle.std.proofs.lemmas.Bool.Decides.{nat_tests}
use Rattle.fence.proofs.lemmas.Nexuses.{as_many}
use Rattle.fence.proofs.witnessed.is_of.Goals as goal

pub returns : goal.returns
returns c there =
    as_many _ _ _ _ _ c.parts.ensures.value (c.from.ensures ∙ (c.hosts.ensures.value ∙ ap (λ r. r.hosts) c.registry.ensures.value)) c.len.ensures (grind (arith, nat_tests, there))
