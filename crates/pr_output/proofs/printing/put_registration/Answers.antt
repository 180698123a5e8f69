use Rattle.pr_output.proofs.lemmas.Written.Fronts.{front_first, front_then, puts_err, puts_last}
use Rattle.pr_output.proofs.printing.put_registration.Goals as goal

pub returns-in_err-put : goal.returns-in_err-put
returns-in_err-put g c = puts_err _ _ _ _ (front_first _ _ _ _ c.in_err-put.ensures) c.from_residual.ensures.0

pub returns-in_err-put-2 : goal.returns-in_err-put-2
returns-in_err-put-2 g c =
    let f = front_first _ _ _ _ c.in_err-put-2.ensures in
    puts_err _ _ _ _ (front_then _ _ _ _ _ c.in_ok-put.ensures f) c.from_residual-in_err-put-2.ensures.0

pub returns : goal.returns
returns g c = puts_last _ _ _ _ _ _ c.in_ok-put.ensures (puts_last _ _ _ _ _ _ c.in_ok-put-2.ensures c.put_key_or_dash.ensures)
