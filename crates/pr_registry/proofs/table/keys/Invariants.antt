use Rattle.pr_registry.proofs.Common.{◌≡◌, ◌≤◌, length, map_where}
use Rattle.std.specs.FinMap as map
use Rattle.pr_registry.proofs.lemmas.Tables.{slot}
use Rattle.pr_registry.proofs.table.keys.Given as goal

abbrev pub invariant-loop-slot : goal.invariant-loop-slot
invariant-loop-slot l = (l.keys.items ≡ map.values (map_where l.slot-index (slot l.slots))) × (length l.keys.items ≤ l.slot-index)
