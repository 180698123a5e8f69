-- A step of each kind, and one statement or arm more.
use Rattle.pr_script.proofs.Common.{◌≡◌, ◌+◌, ◌-◌, take, drop, sym, ap, ◌∙◌, subst, arith, statement_of, statements_in, arms_in, IsCompiled, AreArmsCompiled}
use Rattle.pr_script.proofs.lemmas.Trees.Equations.{tree_send, tree_repeat}
use Rattle.pr_script.proofs.lemmas.Program.Tables.{laid_more, arms_laid_more, send_laid, repeat_laid}
use Rattle.pr_script.proofs.compile.+compile.Goals as goal

pub compile_step-returns-in_ok-arms-in-Send : goal.compile_step-returns-in_ok-arms-in-Send
compile_step-returns-in_ok-arms-in-Send t c = send_laid _ _ _ _ _ _ _ _
    (ap statement_of c.in-Send.is ∙ tree_send c.in-Send.line c.in-Send.command c.in-Send.arms)
    (subst (λ xs. AreArmsCompiled c.args.rows.now.items c.compile_arms.new.rows.items (arms_in xs) c.args.next c.in_ok-arms-in-Send.arms.items)
    c.deref.ensures.value c.in_ok-arms-in-Send.ensures)

pub compile_step-returns-in_ok-body-in-Repeat : goal.compile_step-returns-in_ok-body-in-Repeat
compile_step-returns-in_ok-body-in-Repeat t c = repeat_laid _ _ _ _ _ _ _
    (ap statement_of c.in-Repeat.is ∙ tree_repeat c.in-Repeat.count c.in-Repeat.body)
    (subst (λ xs. IsCompiled c.args.rows.now.items c.compile.new.rows.items (statements_in xs) 0 c.in_ok-body-in-Repeat.body)
    c.deref-in-Repeat.ensures.value c.in_ok-body-in-Repeat.ensures)

pub compile-loop-i-preserved : goal.compile-loop-i-preserved
compile-loop-i-preserved t c =
    let number : c.loop-i.i ≡ c.loop-i.i - 1 + 1 = omega arith in
    laid_more c.args.rows.now.items c.loop-i.rows.items c.compile_step.new.rows.items c.args.statements.now (c.loop-i.i - 1) c.args.next c.loop-i.place
    c.index-statements-i.result c.in_ok-step.step (omega arith) c.index-statements-i.is
    (subst (λ n. IsCompiled c.args.rows.now.items c.loop-i.rows.items (statements_in (drop n c.args.statements.now)) c.args.next c.loop-i.place) number c.loop-i.invariant)
    c.in_ok-step.ensures
    c.push.new.self.items c.len-place.result c.in_ok-push.ensures.items (omega (arith, c.len-place.ensures, c.in_ok-push.ensures.len, c.compile_step.new.rows.ok.0))

pub compile_arms-loop-arm-preserved : goal.compile_arms-loop-arm-preserved
compile_arms-loop-arm-preserved t c =
    subst (AreArmsCompiled c.args.rows.now.items c.compile.new.rows.items (arms_in (take (c.loop-arm.arm-index + 1) c.args.arms.now)) c.args.next) (sym c.in_ok-push.ensures.items)
    (arms_laid_more c.args.rows.now.items c.loop-arm.rows.items c.compile.new.rows.items c.args.arms.now c.loop-arm.arm-index c.args.next
    c.in_ok-place.place c.arm-item.result c.loop-arm.jumps.items c.requires.within c.loop-arm-test.true c.arm-item.is c.loop-arm.invariant
    (subst (λ xs. IsCompiled c.loop-arm.rows.items c.compile.new.rows.items (statements_in xs) c.args.next c.in_ok-place.place) c.deref.ensures.value c.in_ok-place.ensures))
