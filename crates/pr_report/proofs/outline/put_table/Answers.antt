use Rattle.pr_report.proofs.Common.{printed_word, front_first, puts_err, puts_last}
use Rattle.pr_report.specs.OutlineText.{table_text}
use Rattle.pr_report.proofs.outline.put_table.Goals as goal

pub returns-in_err-put_line : goal.returns-in_err-put_line
unfolding printed_word table_text
returns-in_err-put_line g c = puts_err _ _ _ _ (front_first _ _ _ _ (rw (c.name_of-host.ensures, c.from.ensures) at c.in_err-put_line.ensures)) c.from_residual.ensures.0

pub returns : goal.returns
unfolding printed_word table_text
returns g c = puts_last _ _ _ _ _ _ (rw (c.name_of-host.ensures, c.from.ensures) at c.in_ok-put_line.ensures) c.put_sends.ensures
