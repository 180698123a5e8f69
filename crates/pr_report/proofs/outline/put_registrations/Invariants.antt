use Rattle.pr_report.proofs.Common.{ℕ, ◌-◌, flat_map, range_with_len, view_of, registration_line, names_of, Wrote}
use Rattle.pr_report.proofs.outline.put_registrations.Given as goal

abbrev pub invariant-loop-host : goal.invariant-loop-host
invariant-loop-host g l =
    (own : ℕ)
    → let each = registration_line (names_of l.nexuses) (view_of own l.view) in
    Wrote (g.W.Write.contents l.fn.writer) (g.W.Write.contents l.writer)
    (flat_map each (range_with_len 0 l.view.hosts)) (flat_map each (range_with_len l.host (l.view.hosts - l.host)))
