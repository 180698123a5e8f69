use Rattle.pr_trace.proofs.lemmas.TraceText.Lines.{body_of_parts}
use Rattle.pr_trace.proofs.trace.write_trace_body.Goals as goal

pub returns : goal.returns
returns g c =
    body_of_parts _ _ _ _ _ c.args.history.now _ _ c.args.ends.now c.args.counts.now _ c.parts.ensures.value c.deref.ensures.value c.registry.ensures.value c.put_trace_body.ensures
