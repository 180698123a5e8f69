use Rattle.pr_trace.proofs.Common.{refl, append-nil, names_of}
use Rattle.pr_trace.proofs.lemmas.FrontsWritten.HeldLines.{held_all, held_err, held_front, held_more}
use Rattle.pr_trace.proofs.lemmas.TraceText.Lines.{ending_lines_from, ending_lines_end}
use Rattle.pr_trace.proofs.trace.add_ends.Goals as goal

pub loop-host-init : goal.loop-host-init
loop-host-init g c = held_all _ _ _ refl

pub returns-in_err-add_line : goal.returns-in_err-add_line
returns-in_err-add_line g c =
    let here = ending_lines_from (names_of c.args.nexuses.now) c.args.counts.now c.args.ends.now c.loop-host.host _ c.loop-host-test.true c.index-ends-host.is in
    held_err _ _ _ _ _ (held_front _ _ _ _ c.loop-host.page.items _ _ (rw here at c.loop-host.invariant) (rw (c.name_of.ensures, c.count_of.ensures) at c.in_err-add_line.ensures)) c.from_residual.ensures.0

pub loop-host-preserved : goal.loop-host-preserved
loop-host-preserved g c =
    let here = ending_lines_from (names_of c.args.nexuses.now) c.args.counts.now c.args.ends.now c.loop-host.host _ c.loop-host-test.true c.index-ends-host.is in
    held_more _ _ _ _ _ _ _ _ (rw here at c.loop-host.invariant) (rw (c.name_of.ensures, c.count_of.ensures) at c.in_ok-add_line.ensures)

pub returns : goal.returns
returns g c =
    rw append-nil at (rw (ending_lines_end (names_of c.args.nexuses.now) c.args.counts.now c.args.ends.now c.loop-host.host c.loop-host-test.false) at c.loop-host.invariant)
