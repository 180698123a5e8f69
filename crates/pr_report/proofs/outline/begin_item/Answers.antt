use Rattle.pr_report.proofs.Common.{codes, front_first, puts_err, puts_last}
use Rattle.pr_report.proofs.outline.begin_item.Goals as goal

pub returns-in_err-put : goal.returns-in_err-put
returns-in_err-put g c = puts_err _ _ _ _ (front_first _ _ (codes " ") _ c.in_err-put.ensures) c.from_residual.ensures.0

pub returns : goal.returns
returns g c = puts_last _ _ _ (codes " ") _ _ c.in_ok-put.ensures c.put_spaced.ensures
