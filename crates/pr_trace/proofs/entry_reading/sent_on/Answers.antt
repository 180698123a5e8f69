use Rattle.pr_trace.proofs.Common.{refl, names_of}
use Rattle.pr_trace.proofs.lemmas.TraceReadings.EntryLines.{not_seven}
use Rattle.pr_trace.proofs.entry_reading.sent_on.Goals as goal

pub returns-in_default : goal.returns-in_default
returns-in_default c =
    rw (not_seven c.args.version (names_of c.args.nexuses.now) c.args.index c.args.line.now c.in_default.ensures) refl
