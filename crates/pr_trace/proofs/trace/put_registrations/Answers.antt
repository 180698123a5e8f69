use Rattle.pr_trace.proofs.Common.{printed_word, puts_err}
use Rattle.pr_output.proofs.lemmas.Written.Fronts.{wrote_all, wrote_front, wrote_more}
use Rattle.pr_trace.proofs.lemmas.TraceText.Lines.{registrations_from, registrations_end}
use Rattle.pr_trace.proofs.trace.put_registrations.Goals as goal

pub returns-in_err-put_after_space : goal.returns-in_err-put_after_space
unfolding printed_word
returns-in_err-put_after_space g c =
    let here = registrations_from c.args.unit.now c.args.nexuses.now c.loop-host.host _ c.loop-host-test.true c.index-nexuses-host.is in
    puts_err _ _ _ _ (wrote_front _ _ _ _ _ _ (rw here at c.loop-host.invariant) (rw (c.as_bytes.ensures.value, c.as_str.ensures.value, c.key_of.ensures) at c.in_err-put_after_space.ensures)) c.from_residual.ensures.0

pub loop-host-preserved : goal.loop-host-preserved
unfolding printed_word
loop-host-preserved g c =
    let here = registrations_from c.args.unit.now c.args.nexuses.now c.loop-host.host _ c.loop-host-test.true c.index-nexuses-host.is in
    wrote_more _ _ _ _ _ _ (rw here at c.loop-host.invariant) (rw (c.as_bytes.ensures.value, c.as_str.ensures.value, c.key_of.ensures) at c.in_ok-put_after_space.ensures)

pub returns : goal.returns
returns g c =
    wrote_all _ _ _ (rw (registrations_end c.args.unit.now c.args.nexuses.now c.loop-host.host c.loop-host-test.false) at c.loop-host.invariant)
