use Rattle.pr_report.proofs.Common.{front_first, front_then, puts_err, puts_last}
use Rattle.pr_report.specs.OutlineText.{view_text}
use Rattle.pr_report.proofs.outline.put_view.Goals as goal

pub returns-in_err-put_registrations : goal.returns-in_err-put_registrations
unfolding view_text
returns-in_err-put_registrations g c = λ own. puts_err _ _ _ _ (front_first _ _ _ _ (c.in_err-put_registrations.ensures own)) c.from_residual.ensures.0

pub returns-in_err-put_reservation_line : goal.returns-in_err-put_reservation_line
unfolding view_text
returns-in_err-put_reservation_line g c = λ own.
    let f = front_first _ _ _ _ (c.in_err-put_reservation_line.ensures own) in
    puts_err _ _ _ _ (front_then _ _ _ _ _ (c.in_ok-put_registrations.ensures own) f) c.from_residual-in_err-put_reservation_line.ensures.0

pub returns : goal.returns
unfolding view_text
returns g c = λ own. puts_last _ _ _ _ _ _ (c.in_ok-put_registrations.ensures own) (puts_last _ _ _ _ _ _ (c.in_ok-put_reservation_line.ensures own) (c.put_pending_line.ensures own))
