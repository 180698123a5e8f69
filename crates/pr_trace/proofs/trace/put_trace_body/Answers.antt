use Rattle.pr_trace.proofs.Common.{puts_err}
use Rattle.pr_trace.proofs.lemmas.FrontsWritten.HeldLines.{held_end, held_first, held_last, held_over}
use Rattle.pr_trace.proofs.trace.put_trace_body.Goals as goal

pub returns-in_err-add_body : goal.returns-in_err-add_body
returns-in_err-add_body g c =
    puts_err _ _ _ _ (held_over _ _ _ _ _ (held_first _ _ c.new-page.result.items c.new-page.ensures) c.in_err-add_body.ensures) c.from_residual.ensures.0

pub returns : goal.returns
returns g c =
    let whole = held_end _ _ _ _ _ c.add_body.new.page.items (held_first _ _ c.new-page.result.items c.new-page.ensures) c.in_ok-add_body.ensures in
    held_last _ _ _ _ _ _ whole (rw c.as_slice.ensures.value at c.put.ensures)
