use Rattle.pr_report.proofs.Common.{printed_word}
use Rattle.pr_report.proofs.verdict.put_no_arm.Goals as goal

pub returns : goal.returns
unfolding printed_word
returns g c = rw c.from.ensures at c.put_refused.ensures
