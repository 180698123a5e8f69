use Rattle.pr_trace.proofs.Common.{first_line, front_first, front_then, puts_err}
use Rattle.pr_output.proofs.lemmas.Written.Fronts.{puts_last}
use Rattle.pr_trace.proofs.first_line.put_first.Goals as goal

pub returns-in_err-put : goal.returns-in_err-put
unfolding first_line
returns-in_err-put g c = puts_err _ _ _ _ (front_first _ _ _ _ c.in_err-put.ensures) c.from_residual.ensures.0

pub returns-in_err-put_number : goal.returns-in_err-put_number
unfolding first_line
returns-in_err-put_number g c =
    let f = front_first _ _ _ _ (rw c.from.ensures at c.in_err-put_number.ensures) in
    puts_err _ _ _ _ (front_then _ _ _ _ _ c.in_ok-put.ensures f) c.from_residual-in_err-put_number.ensures.0

pub returns : goal.returns
unfolding first_line
returns g c = puts_last _ _ _ _ _ _ c.in_ok-put.ensures (puts_last _ _ _ _ _ _ (rw c.from.ensures at c.in_ok-put_number.ensures) c.put-2.ensures)
