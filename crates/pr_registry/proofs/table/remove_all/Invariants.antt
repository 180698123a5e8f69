use Rattle.pr_registry.proofs.Common.{◌≡◌, ℕ, if◌then◌else◌, None, MOST_NEXUSES, table_keys}
use Rattle.std.specs.FinMap as map
use Rattle.pr_registry.proofs.lemmas.Tables.{is_removed_below}
use Rattle.pr_registry.proofs.table.remove_all.Given as goal

abbrev pub invariant-loop-host : goal.invariant-loop-host
invariant-loop-host l =
    (q : ℕ) → map.get (table_keys MOST_NEXUSES l.slots) q ≡ (if is_removed_below l.removed l.host q then None else map.get (table_keys MOST_NEXUSES l.initial.slots) q)
