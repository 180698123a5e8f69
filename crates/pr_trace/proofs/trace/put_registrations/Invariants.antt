use Rattle.pr_trace.proofs.Common.{drop, Wrote}
use Rattle.pr_trace.proofs.lemmas.TraceText.Lines.{registrations}
use Rattle.pr_trace.proofs.trace.put_registrations.Given as goal

abbrev pub invariant-loop-host : goal.invariant-loop-host
invariant-loop-host g l =
    Wrote (g.W.Write.contents l.fn.writer) (g.W.Write.contents l.writer) (registrations l.unit 0 l.nexuses) (registrations l.unit l.host (drop l.host l.nexuses))
