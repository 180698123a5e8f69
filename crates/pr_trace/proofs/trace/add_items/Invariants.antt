use Rattle.pr_trace.proofs.Common.{◌++◌, drop, names_of, item_lines, Wrote}
use Rattle.pr_trace.proofs.trace.add_items.Given as goal

abbrev pub invariant-loop-others : goal.invariant-loop-others
invariant-loop-others g l = Wrote (g.W.Write.contents l.fn.writer) (g.W.Write.contents l.writer)
    (l.fn.page.items ++ item_lines 0 (names_of l.nexuses) l.history) (l.page.items ++ item_lines l.others (names_of l.nexuses) (drop l.others l.history))
