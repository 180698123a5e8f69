-- the lines that are left, behind those that were read
use Rattle.pr_trace.proofs.Common.{◌≡◌, ◌-◌, ◌*◌, ◌≤◌, length, later_lines, lines, bytes_held, bytes_left, Takes, Leads, MOST_LATER_LINES}
use Rattle.pr_trace.proofs.trace_reading.read_later.Given as goal

abbrev pub invariant-loop-end : goal.invariant-loop-end
invariant-loop-end g l =
    Leads (λ old new. later_lines l.items 0 (lines old) ≡ later_lines l.items l.others (lines new)) (bytes_left l.fn.ahead (g.R.Read.remaining l.fn.reader)) (bytes_left l.ahead (g.R.Read.remaining l.reader))
    × (l.others ≤ MOST_LATER_LINES)
    × Takes (1025 * l.others) (g.R.Read.remaining l.fn.reader) (g.R.Read.remaining l.reader) (length (bytes_held l.fn.ahead)) (length (bytes_held l.ahead))

abbrev pub decreases-loop-end : goal.decreases-loop-end
decreases-loop-end g l = MOST_LATER_LINES - l.others
