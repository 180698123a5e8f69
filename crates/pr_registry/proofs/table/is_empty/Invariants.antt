use Rattle.pr_registry.proofs.Common.{◌≡◌, ℕ, ◌<◌, None}
use Rattle.pr_registry.proofs.lemmas.Tables.{slot}
use Rattle.pr_registry.proofs.table.is_empty.Given as goal

abbrev pub invariant-loop-slot : goal.invariant-loop-slot
invariant-loop-slot l = (i : ℕ) → i < l.slot-index → slot l.slots i ≡ None
