use Rattle.pr_output.proofs.Common.{codes}
use Rattle.pr_output.proofs.lemmas.Written.Fronts.{front_first, puts_err, puts_last}
use Rattle.pr_output.proofs.printing.put_named_sense.Goals as goal

pub returns-in_err-put : goal.returns-in_err-put
returns-in_err-put g c = puts_err _ _ _ _ (front_first _ _ (codes "sense ") _ c.in_err-put.ensures) c.from_residual.ensures.0

pub returns : goal.returns
returns g c = puts_last _ _ _ (codes "sense ") _ _ c.in_ok-put.ensures c.put_sense.ensures
