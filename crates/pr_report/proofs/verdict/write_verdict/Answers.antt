use Rattle.pr_report.proofs.Common.{printed_word}
use Rattle.pr_report.proofs.lemmas.Verdicts.RefusalLines.{refusal_of_parts}
use Rattle.pr_report.proofs.verdict.write_verdict.Goals as goal

pub returns-in-Accepted : goal.returns-in-Accepted
unfolding printed_word
returns-in-Accepted g c = rw c.in-Accepted.is c.put_line.ensures

pub returns-in-Refused : goal.returns-in-Refused
returns-in-Refused g c = refusal_of_parts _ _ _ _ _ _ _ _ c.parts.ensures.value c.deref.ensures.value c.in-Refused.is c.put_reason.ensures
