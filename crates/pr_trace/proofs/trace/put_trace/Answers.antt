use Rattle.pr_trace.proofs.Common.{map, ending_of, names_of, puts_err}
use Rattle.pr_trace.specs.TraceText.{trace_body}
use Rattle.pr_trace.proofs.lemmas.FrontsWritten.HeldLines.{held_end, held_last, held_over}
use Rattle.pr_trace.proofs.lemmas.TraceText.Lines.{first_front, first_put}
use Rattle.pr_trace.proofs.trace.put_trace.Goals as goal

pub returns-in_err-add_line : goal.returns-in_err-add_line
returns-in_err-add_line g c =
    let body = trace_body (names_of c.args.nexuses.now) c.args.history.now c.args.unit.now (map ending_of c.args.ends.now) c.args.counts.now in
    puts_err _ _ _ _ (first_front c.args.version _ _ c.new-page.result.items body c.new-page.ensures c.in_err-add_line.ensures) c.from_residual.ensures.0

pub returns-in_err-add_body : goal.returns-in_err-add_body
returns-in_err-add_body g c =
    let body = trace_body (names_of c.args.nexuses.now) c.args.history.now c.args.unit.now (map ending_of c.args.ends.now) c.args.counts.now in
    let first = first_put c.args.version _ _ c.new-page.result.items c.add_line.new.page.items body c.new-page.ensures c.in_ok-add_line.ensures in
    puts_err _ _ _ _ (held_over _ _ _ _ _ first c.in_err-add_body.ensures) c.from_residual-in_err-add_body.ensures.0

pub returns : goal.returns
returns g c =
    let body = trace_body (names_of c.args.nexuses.now) c.args.history.now c.args.unit.now (map ending_of c.args.ends.now) c.args.counts.now in
    let first = first_put c.args.version _ _ c.new-page.result.items c.add_line.new.page.items body c.new-page.ensures c.in_ok-add_line.ensures in
    let whole = held_end _ _ _ _ _ c.add_body.new.page.items first c.in_ok-add_body.ensures in
    held_last _ _ _ _ _ _ whole (rw c.as_slice.ensures.value at c.put.ensures)
