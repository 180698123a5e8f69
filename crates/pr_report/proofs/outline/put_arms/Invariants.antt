use Rattle.pr_report.proofs.Common.{ℕ, drop, slice_get, flat_map, Wrote}
use Rattle.pr_report.specs.OutlineText.{arm_text}
use Rattle.pr_report.proofs.outline.put_arms.Given as goal

abbrev pub invariant-loop-arm : goal.invariant-loop-arm
invariant-loop-arm g l =
    let each = λ (arm : ℕ). arm_text (slice_get l.tests arm) in
    Wrote (g.W.Write.contents l.fn.writer) (g.W.Write.contents l.writer) (flat_map each l.arms) (flat_map each (drop l.arm-index l.arms))
