use Rattle.pr_registry.proofs.Common.{slice_set, None, ap, ◌∙◌, MOST_NEXUSES, table_keys}
use Rattle.pr_registry.proofs.lemmas.States.{table_keys-without}
use Rattle.pr_registry.proofs.table.remove.Goals as goal

pub returns : goal.returns
returns c =
    ap (λ i. table_keys MOST_NEXUSES (slice_set c.args.slots.now i None)) c.from.ensures
    ∙ table_keys-without c.args.slots.now c.args.host c.told-slots c.requires
