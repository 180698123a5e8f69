use Rattle.pr_registry.proofs.Common.{slice_set, Some, ap, ◌∙◌, MOST_NEXUSES, table_keys}
use Rattle.pr_registry.proofs.lemmas.States.{table_keys-insert}
use Rattle.pr_registry.proofs.table.insert.Goals as goal

pub returns : goal.returns
returns c =
    ap (λ i. table_keys MOST_NEXUSES (slice_set c.args.slots.now i (Some c.args.key))) c.from.ensures
    ∙ table_keys-insert c.args.slots.now c.args.host c.args.key c.told-slots c.requires
