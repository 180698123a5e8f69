use Rattle.pr_verify.proofs.Common.{vec_len, sym, ◌∙◌, subst, arith, into_iter_items, scenario_of, IsAnswerFor, IsBegunFor, IsCheckFor, EachFrom}
use Rattle.pr_verify.proofs.lemmas.Checks.CheckLists.{each_first, each_more, each_rest}
use Rattle.pr_verify.proofs.each.make_rest.Goals.{in-InThread, in-ToMake}
use Rattle.pr_verify.proofs.each.make_rest.Goals as goal

pub loop-check-preserved : goal.loop-check-preserved
loop-check-preserved g c =
    let s = scenario_of c.args.scenario.now in
    let done = vec_len c.loop-check.checks in
    let was = c.loop-check.invariant in
    let steps = c.in-Some.ensures.steps in
    let first : IsBegunFor s done c.in-Some.check = each_first (IsBegunFor s) done _ _ c.in-Some.check steps.0 was.rest in
    let here : IsCheckFor s done c.match-check.push_reserved =
    elim c.match-check.branch [
      | in-InThread w ↦ subst (IsCheckFor s done) (sym w.push_reserved-is) (subst (IsBegunFor s done) w.in-InThread.is first)
      | in-ToMake w ↦ subst (IsCheckFor s done) (sym w.push_reserved-is) (subst (λ h. IsAnswerFor s h w.check_gated.result) (subst (IsBegunFor s done) w.in-ToMake.is first).0 w.check_gated.ensures)
    ]
    in record {
      len = omega (arith, c.push_reserved.ensures.len, steps.1, was.len);
      room = c.push_reserved.ensures.capacity ∙ was.room;
      rest = subst (λ n. EachFrom (IsBegunFor s) n (into_iter_items c.next.new.self)) (sym c.push_reserved.ensures.len) (each_rest (IsBegunFor s) done _ _ c.in-Some.check steps.0 was.rest);
      each = each_more (IsCheckFor s) 0 done c.loop-check.checks.items _ _ c.push_reserved.ensures.items (omega (arith, c.loop-check.checks.ok.0)) here was.each;
    }
