use Rattle.pr_verify.proofs.Common.{◌≡◌, ℕ, ◌+◌, ◌<◌, map, Contains, Vec, AllPairs, Global, sym, ap, ◌∙◌, subst, arith, false≢true, KeptView, Landing, Arm}
use Rattle.pr_verify.proofs.lemmas.Tabling.Rows.{AreBefore, before_same, before_more, before_rise}
use Rattle.pr_verify.proofs.tabling.arms_taken.Goals.{then-lands_in+in_ok-push, else-lands_in}
use Rattle.pr_verify.proofs.tabling.arms_taken.Goals as goal

pub loop-arm-preserved : goal.loop-arm-preserved
loop-arm-preserved c =
    let P = λ (n : ℕ). Contains (map (λ (o : Landing × KeptView). o.0) c.args.outcomes.now) (Arm n) in
    let k = c.loop-arm.arm in
    let xs = c.loop-arm.arms.items in
    let before = c.loop-arm.invariant in
    elim c.if-lands_in.branch [
      | then-lands_in+in_ok-push w ↦
          let more = ap (λ (v : Vec ℕ Global). v.items) w.arms-is ∙ w.in_ok-push.ensures.items in
          let here = c.lands_in.ensures.0 w.if-lands_in.true in
          record {
            each = subst (AreBefore (λ n. n) P (k + 1)) (sym more) (before_more (λ n. n) P k xs before.each k here (omega arith) (λ n there late. late) (λ n there same. same));
            rise = subst (AllPairs (λ m n. m < n)) (sym more) (before_rise (λ n. n) P k xs before.each k here (omega arith) (λ n there late. late) (λ n there same. same) before.rise);
          }
      | else-lands_in w ↦
          let same = ap (λ (v : Vec ℕ Global). v.items) w.arms-is in
          record {
            each = subst (AreBefore (λ n. n) P (k + 1)) (sym same) (before_same (λ n. n) P k xs before.each (λ n there same. false≢true (sym w.if-lands_in.false ∙ c.lands_in.ensures.1 (subst P same there))));
            rise = subst (AllPairs (λ m n. m < n)) (sym same) before.rise;
          }
    ]

pub returns-clause-each : goal.returns-clause-each
returns-clause-each c =
    let P = λ (n : ℕ). Contains (map (λ (o : Landing × KeptView). o.0) c.args.outcomes.now) (Arm n) in
    let whole : c.loop-arm.arm ≡ c.args.count = omega arith in
    subst (λ k. AreBefore (λ n. n) P k c.loop-arm.arms.items) whole c.loop-arm.invariant.each
