use Rattle.pr_witness.proofs.Common.{within_parts}
use Rattle.pr_witness.proofs.certifying.is_over_budget.Goals as goal

pub nexus_in-requires : goal.nexus_in-requires
nexus_in-requires c = within_parts _ _ _ _ _ c.parts.ensures.value c.from.ensures c.len.ensures c.if-from-len.false
