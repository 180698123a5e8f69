use Rattle.pr_registry.proofs.Common.{◌≡◌, false, nat_lt, sym, ap, ◌∙◌, arith, nat_tests, MOST_NEXUSES, table_keys}
use Rattle.std.specs.FinMap as map
use Rattle.pr_registry.proofs.lemmas.Tables.{contains_key-table_keys, contains_key-table_keys_past}
use Rattle.pr_registry.proofs.table.is_registered.Goals as goal

pub returns-then-place-lt-MOST_NEXUSES : goal.returns-then-place-lt-MOST_NEXUSES
returns-then-place-lt-MOST_NEXUSES c =
    c.is_some.ensures ∙ sym (contains_key-table_keys c.args.slots.now c.from-place.result c.if-place-lt-MOST_NEXUSES.true)
    ∙ ap (map.contains_key (table_keys MOST_NEXUSES c.args.slots.now)) c.from-place.ensures

pub returns-else-place-lt-MOST_NEXUSES : goal.returns-else-place-lt-MOST_NEXUSES
returns-else-place-lt-MOST_NEXUSES c =
    let past : nat_lt c.from-place.result MOST_NEXUSES ≡ false = grind (arith, nat_tests) in
    past ∙ sym (contains_key-table_keys_past c.args.slots.now c.from-place.result c.if-place-lt-MOST_NEXUSES.false)
    ∙ ap (map.contains_key (table_keys MOST_NEXUSES c.args.slots.now)) c.from-place.ensures
