use Rattle.pr_output.proofs.lemmas.Written.Fronts.{front_first, puts_err, puts_last}
use Rattle.pr_output.proofs.printing.put_attentions.Goals as goal

pub returns-in_err-put_attention : goal.returns-in_err-put_attention
returns-in_err-put_attention g c =
    rw c.in-Some.ensures.cases.0 (puts_err _ _ _ _ (front_first _ _ _ _ c.in_err-put_attention.ensures) c.from_residual.ensures.0)

pub returns : goal.returns
returns g c = rw c.in-Some.ensures.cases.0 (puts_last _ _ _ _ _ _ c.in_ok-put_attention.ensures c.put_more_attentions.ensures)
