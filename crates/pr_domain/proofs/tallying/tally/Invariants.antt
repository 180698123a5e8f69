use Rattle.pr_domain.proofs.Common.{view_in, Scope, Grows, IsReserved, IsOfScope}
use Rattle.pr_domain.proofs.tallying.tally.Given as goal

abbrev pub invariant-loop-reservation : goal.invariant-loop-reservation
invariant-loop-reservation l =
    (s : Scope) → IsOfScope s l.hosts l.own l.asked.keys.now l.view → Grows (view_in s l.view) l.asked.command l.asked.tests.now l.initial.tally l.tally (IsReserved s l.reservation)
