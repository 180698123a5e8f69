use Rattle.pr_output.proofs.lemmas.Written.Fronts.{front_first, front_then, puts_err, puts_last}
use Rattle.pr_output.proofs.printing.put_sense.Goals as goal

pub returns-in_err-put_digits : goal.returns-in_err-put_digits
returns-in_err-put_digits g c = puts_err _ _ _ _ (front_first _ _ _ _ (rw c.from.ensures at c.in_err-put_digits.ensures)) c.from_residual.ensures.0

pub returns-in_err-put_after_slash : goal.returns-in_err-put_after_slash
returns-in_err-put_after_slash g c =
    let f = front_first _ _ _ _ c.in_err-put_after_slash.ensures in
    puts_err _ _ _ _ (front_then _ _ _ _ _ (rw c.from.ensures at c.in_ok-put_digits.ensures) f) c.from_residual-in_err-put_after_slash.ensures.0

pub returns : goal.returns
returns g c = puts_last _ _ _ _ _ _ (rw c.from.ensures at c.in_ok-put_digits.ensures) (puts_last _ _ _ _ _ _ c.in_ok-put_after_slash.ensures c.put_after_slash-2.ensures)
