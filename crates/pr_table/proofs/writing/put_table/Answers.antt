-- The version, the host, and the rows.
use Rattle.pr_table.proofs.Common.{front_first, puts_err, puts_last}
use Rattle.pr_output.proofs.lemmas.Written.Fronts.{front_then}
use Rattle.pr_table.proofs.writing.put_table.Goals as goal

pub returns-in_err-put_version : goal.returns-in_err-put_version
returns-in_err-put_version g c = puts_err _ _ _ _ (front_first _ _ _ _ c.in_err-put_version.ensures) c.from_residual.ensures.0

pub returns-in_err-put_host : goal.returns-in_err-put_host
returns-in_err-put_host g c =
    puts_err _ _ _ _ (front_then _ _ _ _ _ c.in_ok-put_version.ensures (front_first _ _ _ _ c.in_err-put_host.ensures)) c.from_residual-in_err-put_host.ensures.0

pub returns : goal.returns
returns g c = puts_last _ _ _ _ _ _ c.in_ok-put_version.ensures (puts_last _ _ _ _ _ _ c.in_ok-put_host.ensures c.put_script.ensures)
