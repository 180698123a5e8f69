use Rattle.pr_report.proofs.Common.{puts_err, wrote_all, wrote_front, wrote_more}
use Rattle.pr_report.specs.OutlineText.{unarmed_line}
use Rattle.pr_output.proofs.lemmas.Written.Fronts.{flat_map_end, flat_map_from}
use Rattle.pr_report.proofs.outline.put_unarmed.Goals as goal

pub returns-in_err-put_unarmed_line : goal.returns-in_err-put_unarmed_line
returns-in_err-put_unarmed_line g c =
    let here = flat_map_from unarmed_line c.args.classes.now c.loop-class.class-index _ c.loop-class-test.true in
    puts_err _ _ _ _ (wrote_front _ _ _ _ _ _ (rw here at c.loop-class.invariant) c.in_err-put_unarmed_line.ensures) c.from_residual.ensures.0

pub loop-class-preserved : goal.loop-class-preserved
loop-class-preserved g c =
    let here = flat_map_from unarmed_line c.args.classes.now c.loop-class.class-index _ c.loop-class-test.true in
    wrote_more _ _ _ _ _ _ (rw here at c.loop-class.invariant) c.in_ok-put_unarmed_line.ensures

pub returns : goal.returns
returns g c =
    wrote_all _ _ _ (rw (flat_map_end unarmed_line c.args.classes.now c.loop-class.class-index c.loop-class-test.false) at c.loop-class.invariant)
