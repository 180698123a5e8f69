use Rattle.pr_report.proofs.Common.{append-nil, joined_by_spaces}
use Rattle.pr_trace.proofs.lemmas.FrontsWritten.HeldLines.{appends_nothing}
use Rattle.pr_report.proofs.outline.put_if.Goals as goal

pub returns-then-is_possible : goal.returns-then-is_possible
unfolding joined_by_spaces
returns-then-is_possible g c = rw (c.if-is_possible.true, append-nil) c.put_after_space.ensures

pub returns-else-is_possible : goal.returns-else-is_possible
unfolding joined_by_spaces
returns-else-is_possible g c = rw c.if-is_possible.false (appends_nothing _)
