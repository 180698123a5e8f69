use Rattle.pr_report.proofs.Common.{ℕ, slice_get, puts_err, wrote_all, wrote_front, wrote_more}
use Rattle.pr_report.specs.OutlineText.{arm_text}
use Rattle.pr_output.proofs.lemmas.Written.Fronts.{flat_map_end, flat_map_from}
use Rattle.pr_report.proofs.outline.put_arms.Goals as goal

pub returns-in_err-put_arm : goal.returns-in_err-put_arm
returns-in_err-put_arm g c =
    let here = flat_map_from (λ (arm : ℕ). arm_text (slice_get c.args.tests.now arm)) c.args.arms.now c.loop-arm.arm-index 0 c.loop-arm-test.true in
    puts_err _ _ _ _ (wrote_front _ _ _ _ _ _ (rw here at c.loop-arm.invariant) (rw c.test_at.ensures at c.in_err-put_arm.ensures)) c.from_residual.ensures.0

pub loop-arm-preserved : goal.loop-arm-preserved
loop-arm-preserved g c =
    let here = flat_map_from (λ (arm : ℕ). arm_text (slice_get c.args.tests.now arm)) c.args.arms.now c.loop-arm.arm-index 0 c.loop-arm-test.true in
    wrote_more _ _ _ _ _ _ (rw here at c.loop-arm.invariant) (rw c.test_at.ensures at c.in_ok-put_arm.ensures)

pub returns : goal.returns
returns g c =
    wrote_all _ _ _ (rw (flat_map_end (λ (arm : ℕ). arm_text (slice_get c.args.tests.now arm)) c.args.arms.now c.loop-arm.arm-index c.loop-arm-test.false) at c.loop-arm.invariant)
