-- the items of the lines that are left stand behind those that were read
use Rattle.pr_trace.proofs.Common.{◌≡◌, ◌-◌, ◌*◌, ◌≤◌, ◌++◌, length, Ok, and_then, items_of, lines, names_of, most_items, bytes_held, bytes_left, Takes, Leads}
use Rattle.pr_trace.specs.declared.versions.TheConstants.{MOST_ITEMS_2}
use Rattle.pr_trace.proofs.trace_reading.read_items.Given as goal

abbrev pub invariant-loop-history : goal.invariant-loop-history
invariant-loop-history g l =
    Leads (λ old new. items_of l.version (names_of l.nexuses) 0 (lines old) ≡ and_then (items_of l.version (names_of l.nexuses) (length l.history.items) (lines new)) (λ more. Ok (l.history.items ++ more)))
    (bytes_left l.fn.ahead (g.R.Read.remaining l.fn.reader)) (bytes_left l.ahead (g.R.Read.remaining l.reader))
    × ((length l.history.items ≤ most_items l.version) × (length l.history.items ≤ MOST_ITEMS_2))
    × Takes (1025 * length l.history.items) (g.R.Read.remaining l.fn.reader) (g.R.Read.remaining l.reader) (length (bytes_held l.fn.ahead)) (length (bytes_held l.ahead))

abbrev pub decreases-loop-history : goal.decreases-loop-history
decreases-loop-history g l = most_items l.version - length l.history.items
