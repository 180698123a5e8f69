use Rattle.pr_registry.proofs.Common.{◌==◌, ap, ◌∙◌}
use Rattle.std.specs.FinSet as set
use Rattle.pr_registry.proofs.lemmas.Sets.{len-is_nobody}
use Rattle.pr_registry.proofs.table.has_no_registrant.Goals as goal

pub returns : goal.returns
returns c =
    len-is_nobody c.is_empty.result c.hosts_with.result c.is_empty.ensures ∙ ap (λ s. set.len s == 0) c.hosts_with.ensures
