use Rattle.pr_trace.proofs.Common.{◌++◌, map, drop, ending_of, names_of, ending_lines, Wrote}
use Rattle.pr_trace.proofs.trace.add_ends.Given as goal

abbrev pub invariant-loop-host : goal.invariant-loop-host
invariant-loop-host g l = Wrote (g.W.Write.contents l.fn.writer) (g.W.Write.contents l.writer)
    (l.fn.page.items ++ ending_lines 0 (names_of l.nexuses) l.counts (map ending_of l.ends)) (l.page.items ++ ending_lines l.host (names_of l.nexuses) l.counts (map ending_of (drop l.host l.ends)))
