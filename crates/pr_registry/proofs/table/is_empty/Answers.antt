use Rattle.pr_registry.proofs.Common.{sym, ◌∙◌, arith, MOST_NEXUSES}
use Rattle.pr_registry.proofs.lemmas.Tables.{is_empty-table_keys, not_empty-table_keys}
use Rattle.pr_registry.proofs.table.is_empty.Goals as goal

pub returns-then-is_some : goal.returns-then-is_some
returns-then-is_some c =
    sym (not_empty-table_keys MOST_NEXUSES c.args.slots.now c.loop-slot.slot-index c.loop-slot-test.true (sym c.is_some.ensures ∙ c.if-is_some.true))

pub returns : goal.returns
returns c = sym (is_empty-table_keys MOST_NEXUSES c.args.slots.now (λ i small. c.loop-slot.invariant i (omega arith)))
