use Rattle.pr_verify.proofs.Common.{◌≡◌, sym, ◌∙◌, subst, arith, at_read, AllWithin-more, KeptView, Class, Landing, NoArm, IsInRange}
use Rattle.pr_verify.proofs.tabling.are_in_range.Goals.{in-NoArm, in_default}
use Rattle.pr_verify.proofs.tabling.are_in_range.Goals as goal

pub loop-landing-preserved : goal.loop-landing-preserved
loop-landing-preserved c =
    let xs = c.args.outcomes.now in
    let n = c.loop-landing.landing-index in
    let x = c.loop-landing-item.result in
    let P = λ (o : Landing × KeptView). (class : Class) → o.0 ≡ NoArm class → IsInRange class in
    AllWithin-more P xs 0 n c.loop-landing.invariant
    (at_read xs P n x c.loop-landing-test.true c.loop-landing-item.is (elim c.match-landing.branch [
      | in-NoArm w ↦ λ class is. let same : NoArm w.in-NoArm.class ≡ NoArm class = sym w.in-NoArm.is ∙ is in let e : w.in-NoArm.class ≡ class = cc in subst IsInRange e w.is_in_range.ensures
      | in_default w ↦ λ class is. absurd (w.in_default.not-NoArm class is)
    ]))

pub returns : goal.returns
returns c k d small = c.loop-landing.invariant k d (omega arith) (omega arith)
