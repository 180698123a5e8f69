use Rattle.pr_report.proofs.Common.{◌∙◌, front_first}
use Rattle.pr_trace.proofs.lemmas.FrontsWritten.HeldLines.{held_all, held_err, held_next, held_none}
use Rattle.pr_report.proofs.outline.add_send.Goals as goal

pub returns-then-has_added : goal.returns-then-has_added
returns-then-has_added g c = λ own. held_all _ _ _ (c.if-has_added.ensures.added own)

pub returns-in_err-put : goal.returns-in_err-put
returns-in_err-put g c = λ own.
    held_err _ _ _ _ _ (front_first _ _ _ _ (rw (c.as_slice.ensures.value, c.if-has_added.ensures.full) at c.in_err-put.ensures)) c.from_residual.ensures.0

pub returns-then-has_added-2 : goal.returns-then-has_added-2
returns-then-has_added-2 g c = λ own.
    held_next _ _ _ _ _ (rw (c.as_slice.ensures.value, c.if-has_added.ensures.full) at c.in_ok-put.ensures) (rw c.clear.ensures at (c.if-has_added-2.ensures.added own))

pub returns : goal.returns
returns g c = λ own.
    held_none _ _ _ _ _ _ _ (rw (c.as_slice.ensures.value, c.if-has_added.ensures.full) at c.in_ok-put.ensures) (c.put_send.ensures own)
    (c.if-has_added-2.ensures.full ∙ c.clear.ensures)
