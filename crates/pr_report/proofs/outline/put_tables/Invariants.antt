use Rattle.pr_report.proofs.Common.{map, drop, names_of, Wrote}
use Rattle.pr_views.specs.Tables.{table_of}
use Rattle.pr_report.specs.OutlineText.{outlines_text}
use Rattle.pr_report.proofs.outline.put_tables.Given as goal

abbrev pub invariant-loop-table : goal.invariant-loop-table
invariant-loop-table g l =
    Wrote (g.W.Write.contents l.fn.writer) (g.W.Write.contents l.writer)
    (outlines_text (names_of l.nexuses) (map table_of l.tables)) (outlines_text (names_of l.nexuses) (map table_of (drop l.table-index l.tables)))
