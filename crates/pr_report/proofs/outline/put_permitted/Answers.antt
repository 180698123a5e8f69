use Rattle.pr_report.proofs.Common.{printed_word}
use Rattle.pr_report.proofs.outline.put_permitted.Goals as goal

pub returns-else-permitted : goal.returns-else-permitted
unfolding printed_word
returns-else-permitted g c = rw c.if-permitted.false c.put_item.ensures
