use Rattle.pr_report.proofs.Common.{map, ap, names_of, puts_err, wrote_front, wrote_more}
use Rattle.pr_views.specs.Tables.{table_of}
use Rattle.pr_report.specs.OutlineText.{table_text}
use Rattle.pr_trace.proofs.lemmas.TraceText.Lines.{drop_here}
use Rattle.pr_report.proofs.outline.put_tables.Goals as goal

pub returns-in_err-put_table : goal.returns-in_err-put_table
returns-in_err-put_table g c =
    let here = ap (λ ts. map table_of ts) (drop_here c.args.tables.now c.loop-table.table-index c.table-item.result c.loop-table-test.true c.table-item.is) in
    let text = table_text (names_of c.args.nexuses.now) (table_of c.table-item.result) in
    puts_err _ _ _ _ (wrote_front _ _ _ _ text _ (rw here at c.loop-table.invariant) c.in_err-put_table.ensures) c.from_residual.ensures.0

pub loop-table-preserved : goal.loop-table-preserved
loop-table-preserved g c =
    let here = ap (λ ts. map table_of ts) (drop_here c.args.tables.now c.loop-table.table-index c.table-item.result c.loop-table-test.true c.table-item.is) in
    wrote_more _ _ _ _ (table_text (names_of c.args.nexuses.now) (table_of c.table-item.result)) _ (rw here at c.loop-table.invariant) c.in_ok-put_table.ensures
