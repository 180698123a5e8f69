use Rattle.pr_trace.proofs.Common.{sym, ◌∙◌}
use Rattle.pr_trace.proofs.lemmas.TraceReadings.Cuts.{some_left, too_many}
use Rattle.pr_trace.proofs.entry_reading.seven_words.Goals as goal

pub returns-then-is_some : goal.returns-then-is_some
returns-then-is_some c =
    too_many _ _ _ _ _ _ _ _ _ _ _ _ _ _ _ (c.in_ok-index.ensures) (c.in_ok-name.ensures) (c.in_ok-cdb.ensures) (c.in_ok-params.ensures) (c.in_ok-status.ensures) (c.in_ok-sense.ensures) (c.in_ok-bytes.ensures)
    (some_left c.in_ok-bytes.rest (sym c.is_some.ensures ∙ c.if-is_some.true))
