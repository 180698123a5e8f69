use Rattle.pr_registry.proofs.Common.{◌≡◌, ℕ, ◌<◌, ◌≤◌, length, None, MOST_NEXUSES}
use Rattle.pr_registry.proofs.lemmas.Tables.{slot}
use Rattle.pr_registry.proofs.table.slots_of.Given as goal

abbrev pub invariant-loop-host : goal.invariant-loop-host
invariant-loop-host l =
    (length l.slots ≡ MOST_NEXUSES) × ((i : ℕ) → i < l.host → slot l.slots i ≡ slot l.keys i) × ((i : ℕ) → l.host ≤ i → i < MOST_NEXUSES → slot l.slots i ≡ None)
