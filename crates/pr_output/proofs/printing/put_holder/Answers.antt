use Rattle.pr_output.proofs.lemmas.Written.Fronts.{front_first, front_then, puts_err, puts_last}
use Rattle.pr_output.proofs.printing.put_holder.Goals as goal

pub returns-in_err-put_kind : goal.returns-in_err-put_kind
returns-in_err-put_kind g c = puts_err _ _ _ _ (front_first _ _ _ _ c.in_err-put_kind.ensures) c.from_residual.ensures.0

pub returns-in_err-put : goal.returns-in_err-put
returns-in_err-put g c =
    let f = front_first _ _ _ _ c.in_err-put.ensures in
    puts_err _ _ _ _ (front_then _ _ _ _ _ c.in_ok-put_kind.ensures f) c.from_residual-in_err-put.ensures.0

pub returns : goal.returns
returns g c = puts_last _ _ _ _ _ _ c.in_ok-put_kind.ensures (puts_last _ _ _ _ _ _ c.in_ok-put.ensures c.put-2.ensures)
