use Rattle.pr_report.proofs.Common.{◌++◌, map, drop, row_of, sends_text, names_of, Wrote}
use Rattle.pr_report.proofs.lemmas.OutlineText.Sends.{line_and_view}
use Rattle.pr_report.proofs.outline.put_sends.Given as goal

abbrev pub invariant-loop-place : goal.invariant-loop-place
invariant-loop-place g l =
    let view_at = line_and_view l.table.outline.host in
    Wrote (g.W.Write.contents l.fn.writer) (g.W.Write.contents l.writer)
    (sends_text (names_of l.nexuses) (map view_at l.table.outline.views.items) (map row_of l.table.rows.items))
    (l.page.items ++ sends_text (names_of l.nexuses) (map view_at (drop l.place l.table.outline.views.items)) (map row_of (drop l.place l.table.rows.items)))
