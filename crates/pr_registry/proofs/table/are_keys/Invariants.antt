use Rattle.pr_registry.proofs.Common.{ℕ, ◌<◌}
use Rattle.pr_registry.specs.inside.TableStates.{IsKeyOrNone}
use Rattle.pr_registry.proofs.lemmas.Tables.{slot}
use Rattle.pr_registry.proofs.table.are_keys.Given as goal

abbrev pub invariant-loop-slot : goal.invariant-loop-slot
invariant-loop-slot l = (i : ℕ) → i < l.slot-index → IsKeyOrNone (slot l.slots i)
