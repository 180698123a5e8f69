-- The line of the send, and those of its arms.
use Rattle.pr_table.proofs.Common.{front_first, puts_err, puts_last, row_text}
use Rattle.pr_table.proofs.writing.put_send.Goals as goal

pub returns-in_err-put_send_line : goal.returns-in_err-put_send_line
unfolding row_text
returns-in_err-put_send_line g c = puts_err _ _ _ _ (front_first _ _ _ _ c.in_err-put_send_line.ensures) c.from_residual.ensures.0

pub returns : goal.returns
unfolding row_text
returns g c = puts_last _ _ _ _ _ _ c.in_ok-put_send_line.ensures c.put_arms.ensures
