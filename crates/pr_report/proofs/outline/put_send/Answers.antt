use Rattle.pr_report.proofs.Common.{send_text, front_first, front_then, puts_err, puts_last}
use Rattle.pr_report.proofs.outline.put_send.Goals as goal

pub returns-in_err-put_command_line : goal.returns-in_err-put_command_line
unfolding send_text
returns-in_err-put_command_line g c = λ own. puts_err _ _ _ _ (front_first _ _ _ _ c.in_err-put_command_line.ensures) c.from_residual.ensures.0

pub returns-in_err-put_view : goal.returns-in_err-put_view
unfolding send_text
returns-in_err-put_view g c = λ own.
    let f = front_first _ _ _ _ (c.in_err-put_view.ensures own) in
    puts_err _ _ _ _ (front_then _ _ _ _ _ c.in_ok-put_command_line.ensures f) c.from_residual-in_err-put_view.ensures.0

pub returns : goal.returns
unfolding send_text
returns g c = λ own. puts_last _ _ _ _ _ _ c.in_ok-put_command_line.ensures (puts_last _ _ _ _ _ _ (c.in_ok-put_view.ensures own) c.put_replies.ensures)
