use Rattle.pr_verify.proofs.Common.{◌≡◌, AllWithin, Class, NoArm, IsInRange}
use Rattle.pr_verify.proofs.tabling.are_in_range.Given as goal

abbrev pub invariant-loop-landing : goal.invariant-loop-landing
invariant-loop-landing l = AllWithin (λ o. (class : Class) → o.0 ≡ NoArm class → IsInRange class) l.outcomes 0 l.landing-index
