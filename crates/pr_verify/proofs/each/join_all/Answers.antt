use Rattle.pr_verify.proofs.Common.{◌+◌, sym, subst, arith, IsAnswerFor, IsCheckFor, IsAnswerBefore}
use Rattle.pr_verify.proofs.lemmas.Checks.CheckLists.{answer_next, each_first, each_rest, kept_answer}
use Rattle.pr_verify.proofs.each.join_all.Goals.{in-InThread, in-Made}
use Rattle.pr_verify.proofs.each.join_all.Goals as goal

pub loop-check-preserved : goal.loop-check-preserved
loop-check-preserved g c s each =
    let was = c.loop-check.invariant s each in
    let done = was.0 in
    let steps = c.in-Some.ensures.steps in
    let first : IsCheckFor s done c.in-Some.check = each_first (IsCheckFor s) done _ _ c.in-Some.check steps.0 was.2 in
    let here : IsAnswerFor s done c.match-check.answer =
    elim c.match-check.branch [
      | in-InThread w ↦ subst (IsAnswerFor s done) (sym w.answer-is) (kept_answer s done _ w.join-answer.result (subst (IsCheckFor s done) w.in-InThread.is first) w.join-answer.ensures)
      | in-Made w ↦ subst (IsAnswerFor s done) (sym w.answer-is) (subst (IsCheckFor s done) w.in-Made.is first)
    ]
    in (
      done + 1,
      omega (arith, steps.1, was.1),
      each_rest (IsCheckFor s) done _ _ c.in-Some.check steps.0 was.2,
      subst (IsAnswerBefore s (done + 1)) (sym c.and-first.ensures) (answer_next s done c.loop-check.first c.match-check.answer was.3 here),
    )
