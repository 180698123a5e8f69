use Rattle.pr_verify.proofs.Common.{◌+◌, ◌≤◌, sym, subst, arith, AllWithin}
use Rattle.std.specs.Option.{IfSome}
use Rattle.pr_verify.proofs.lemmas.Refusals.Classes.{IsPast, IsFound, past_more, past_taken, past_kept, found_here}
use Rattle.pr_verify.proofs.reviewing.first_unarmed.Goals.{in-NoArm+then-from-number_of+then-not-is_by, in-NoArm+else-from-number_of, else-from-number_of-via-then-from-number_of+else-not-is_by, else-from-number_of-via-else-from-number_of, in_default}
use Rattle.pr_verify.proofs.reviewing.first_unarmed.Goals as goal

pub loop-landing-preserved : goal.loop-landing-preserved
loop-landing-preserved c =
    let xs = c.args.outcomes.now in
    let from = c.args.from in
    let n = c.loop-landing.landing-index in
    let x = c.loop-landing-item.result in
    let first = c.loop-landing.first in
    let before = c.loop-landing.invariant in
    elim c.match-landing.branch [
      | in-NoArm+then-from-number_of+then-not-is_by w ↦ record {
        past = subst (λ f. AllWithin (IsPast xs from f) xs 0 (n + 1)) (sym w.first-is)
            (past_taken xs from n x c.loop-landing-test.true c.loop-landing-item.is w.in-NoArm.class w.in-NoArm.is first (w.is_by.ensures.later w.if-not-is_by.true) before.past);
        found = subst (λ f. IfSome f (IsFound xs from)) (sym w.first-is)
            (found_here xs from n x c.loop-landing-test.true c.loop-landing-item.is w.in-NoArm.class w.in-NoArm.is (subst (λ m. from ≤ m) w.number_of.ensures w.if-from-number_of.true));
      }
      | in-NoArm+else-from-number_of w ↦ record {
        past = subst (λ f. AllWithin (IsPast xs from f) xs 0 (n + 1)) (sym w.first-is)
            (past_kept xs from n x c.loop-landing-test.true c.loop-landing-item.is w.in-NoArm.class w.in-NoArm.is first
            (elim w.else-from-number_of.branch [
              | else-from-number_of-via-then-from-number_of+else-not-is_by v ↦ λ late. v.is_by.ensures.by v.if-not-is_by.false
              | else-from-number_of-via-else-from-number_of v ↦ λ late. absurd (omega (arith, w.number_of.ensures, v.if-from-number_of.false))
            ]) before.past);
        found = subst (λ f. IfSome f (IsFound xs from)) (sym w.first-is) before.found;
      }
      | in_default w ↦ record {
        past = subst (λ f. AllWithin (IsPast xs from f) xs 0 (n + 1)) (sym w.first-is)
            (past_more xs from n x c.loop-landing-test.true c.loop-landing-item.is first before.past (λ class is late. absurd (w.in_default.not-NoArm class is)));
        found = subst (λ f. IfSome f (IsFound xs from)) (sym w.first-is) before.found;
      }
    ]

pub returns : goal.returns
returns c = (λ k d small. c.loop-landing.invariant.past k d (omega arith) (omega arith), c.loop-landing.invariant.found)
