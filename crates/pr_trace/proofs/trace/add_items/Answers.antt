use Rattle.pr_trace.proofs.Common.{refl, append-nil, names_of}
use Rattle.pr_trace.proofs.lemmas.FrontsWritten.HeldLines.{held_all, held_err, held_front, held_more}
use Rattle.pr_trace.proofs.lemmas.TraceText.Lines.{item_lines_from, item_lines_end}
use Rattle.pr_trace.proofs.trace.add_items.Goals as goal

pub loop-others-init : goal.loop-others-init
loop-others-init g c = held_all _ _ _ refl

pub returns-in_err-add_line : goal.returns-in_err-add_line
returns-in_err-add_line g c =
    let here = item_lines_from (names_of c.args.nexuses.now) c.args.history.now c.loop-others.others _ c.loop-others-test.true c.index-history-others.is in
    held_err _ _ _ _ _ (held_front _ _ _ _ c.loop-others.page.items _ _ (rw here at c.loop-others.invariant) c.in_err-add_line.ensures) c.from_residual.ensures.0

pub loop-others-preserved : goal.loop-others-preserved
loop-others-preserved g c =
    let here = item_lines_from (names_of c.args.nexuses.now) c.args.history.now c.loop-others.others _ c.loop-others-test.true c.index-history-others.is in
    held_more _ _ _ _ _ _ _ _ (rw here at c.loop-others.invariant) c.in_ok-add_line.ensures

pub returns : goal.returns
returns g c =
    rw append-nil at (rw (item_lines_end (names_of c.args.nexuses.now) c.args.history.now c.loop-others.others c.loop-others-test.false) at c.loop-others.invariant)
