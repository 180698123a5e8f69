use Rattle.pr_trace.proofs.Common.{sym, ap, ◌∙◌}
use Rattle.std.proofs.lemmas.List.{take_rest}
use Rattle.pr_trace.specs.inside.SevenWords.{words_left}
use Rattle.pr_trace.proofs.lemmas.TraceReadings.Cuts.{words_first, words_last}
use Rattle.pr_trace.proofs.entry_reading.next_word.Goals as goal

pub returns-in-Some : goal.returns-in-Some
returns-in-Some c = ap words_left c.in_ok-line.was ∙ rw take_rest (words_first c.in_ok-line.line.now c.in-Some.end (sym c.space_in.ensures ∙ c.in-Some.is))

pub returns-in-None : goal.returns-in-None
returns-in-None c = ap words_left c.in_ok-line.was ∙ words_last c.in_ok-line.line.now (sym c.space_in.ensures ∙ c.in-None.is)
