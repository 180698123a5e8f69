-- nothing of what is left was lost
use Rattle.pr_trace.proofs.Common.{◌-◌, length, Keeps, bytes_held, bytes_left, Takes}
use Rattle.pr_trace.proofs.ahead.Ahead.next_line.Given as goal

abbrev pub invariant-loop-end : goal.invariant-loop-end
invariant-loop-end g l =
    Keeps (bytes_left l.fn.self (g.R.Read.remaining l.fn.reader)) (bytes_left l.self (g.R.Read.remaining l.reader))
    × Takes 0 (g.R.Read.remaining l.fn.reader) (g.R.Read.remaining l.reader) (length (bytes_held l.fn.self)) (length (bytes_held l.self))

abbrev pub decreases-loop-end : goal.decreases-loop-end
decreases-loop-end g l = 1025 - length (bytes_held l.self)
