use Rattle.pr_report.proofs.Common.{◌≤◌, map, length, subst, row_of, sends_text, names_of, puts_err}
use Rattle.pr_trace.proofs.lemmas.FrontsWritten.HeldLines.{held_first, held_front, held_last, held_more}
use Rattle.pr_report.proofs.lemmas.OutlineText.Sends.{line_and_view, next_send, sends_end}
use Rattle.pr_report.proofs.outline.put_sends.Goals as goal

pub loop-place-init : goal.loop-place-init
loop-place-init g c =
    let table = c.args.table.now in
    let text = sends_text (names_of c.args.nexuses.now) (map (line_and_view table.outline.host) table.outline.views.items) (map row_of table.rows.items) in
    held_first _ text c.new-page.result.items c.new-page.ensures

pub returns-in_err-add_send : goal.returns-in_err-add_send
returns-in_err-add_send g c =
    let table = c.args.table.now in
    let here = next_send (names_of c.args.nexuses.now) table.outline.host table.outline.views.items table.rows.items c.deref-row-items.result.now c.loop-place.place c.index.result.now c.row-item.result
    c.deref-row-items.ensures.value c.args.table.now.each c.loop-place-test.true c.index.ensures c.row-item.is in
    puts_err _ _ _ _ (held_front _ _ _ _ c.loop-place.page.items _ _ (rw here at c.loop-place.invariant) (c.in_err-add_send.ensures table.outline.host)) c.from_residual.ensures.0

pub loop-place-preserved : goal.loop-place-preserved
loop-place-preserved g c =
    let table = c.args.table.now in
    let here = next_send (names_of c.args.nexuses.now) table.outline.host table.outline.views.items table.rows.items c.deref-row-items.result.now c.loop-place.place c.index.result.now c.row-item.result
    c.deref-row-items.ensures.value c.args.table.now.each c.loop-place-test.true c.index.ensures c.row-item.is in
    held_more _ _ _ _ _ _ _ _ (rw here at c.loop-place.invariant) (c.in_ok-add_send.ensures table.outline.host)

pub returns : goal.returns
returns g c =
    let past : length c.args.table.now.rows.items ≤ c.loop-place.place = subst (λ rows. length rows ≤ c.loop-place.place) c.deref-row-items.ensures.value c.loop-place-test.false in
    let held = sends_end _ _ _ c.loop-place.page.items (names_of c.args.nexuses.now) c.args.table.now.outline.host c.args.table.now.outline.views.items c.args.table.now.rows.items c.loop-place.place past c.loop-place.invariant in
    held_last _ _ _ _ _ _ held (rw c.as_slice.ensures.value at c.put.ensures)
