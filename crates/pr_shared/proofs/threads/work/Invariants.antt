use Rattle.std.specs.Prelude.{◌≡◌}
use Rattle.pr_shared.proofs.threads.work.Given as goal

-- the seat is that of the same nexus
abbrev pub invariant-loop-n : goal.invariant-loop-n
invariant-loop-n g l = l.seat.host ≡ l.fn.seat.host
