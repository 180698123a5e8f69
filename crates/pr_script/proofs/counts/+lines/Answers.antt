-- A statement by its kind, one statement or arm more, and lines that fall.
use Rattle.pr_script.proofs.Common.{◌+◌, sym, ap, ◌∙◌, arith, lines_of_all, lines_of_arms, statement_of, statements_in, script_of, arms_in, last_of_climb}
use Rattle.std.proofs.lemmas.Bool.{lt-ltb}
use Rattle.pr_script.specs.Grammar.{lines_of}
use Rattle.pr_script.proofs.lemmas.Trees.Equations.{tree_send, tree_repeat}
use Rattle.pr_script.proofs.lemmas.Versions.Statements.{then, lines_taken, arm_lines_taken, lines_fallen, arm_lines_fallen, climbed_above}
use Rattle.pr_script.proofs.counts.+lines.Goals as goal

pub last_line-loop-statement-preserved : goal.last_line-loop-statement-preserved
last_line-loop-statement-preserved t c =
    lines_taken c.args.line _ c.loop-statement.statement-index c.statement-item.result c.loop-statement-test.true c.statement-item.is
    ∙ (ap (λ o. then o (lines_of (statement_of c.statement-item.result))) c.loop-statement.invariant
    ∙ (sym c.last_statement_line.ensures ∙ c.in_ok-last.was))

pub last_arm_line-loop-arm-preserved : goal.last_arm_line-loop-arm-preserved
last_arm_line-loop-arm-preserved t c =
    arm_lines_taken c.args.line _ c.loop-arm.arm-index c.arm-item.result c.loop-arm-test.true c.arm-item.is
    ∙ (ap (λ o. then o (lines_of_all (script_of c.arm-item.result.body))) c.loop-arm.invariant
    ∙ (sym c.last_line.ensures ∙ c.in_ok-last.was))

pub last_line-returns-in_err-last : goal.last_line-returns-in_err-last
last_line-returns-in_err-last t c =
    let fell = lines_taken c.args.line _ c.loop-statement.statement-index c.statement-item.result c.loop-statement-test.true c.statement-item.is
    ∙ (ap (λ o. then o (lines_of (statement_of c.statement-item.result))) c.loop-statement.invariant
    ∙ (sym c.last_statement_line.ensures ∙ c.in_err-last.was)) in
    let all = lines_fallen c.args.line c.deref-statement-items.result.now (c.loop-statement.statement-index + 1) fell in
    c.from_residual.ensures ∙ (sym all ∙ ap (λ ys. last_of_climb c.args.line (lines_of_all (statements_in ys))) c.deref-statement-items.ensures.value)

pub last_arm_line-returns-in_err-last : goal.last_arm_line-returns-in_err-last
last_arm_line-returns-in_err-last t c =
    let fell = arm_lines_taken c.args.line _ c.loop-arm.arm-index c.arm-item.result c.loop-arm-test.true c.arm-item.is
    ∙ (ap (λ o. then o (lines_of_all (script_of c.arm-item.result.body))) c.loop-arm.invariant
    ∙ (sym c.last_line.ensures ∙ c.in_err-last.was)) in
    c.from_residual.ensures ∙ sym (arm_lines_fallen c.args.line c.args.arms.now (c.loop-arm.arm-index + 1) fell)

pub last_statement_line-returns-else-line-last : goal.last_statement_line-returns-else-line-last
last_statement_line-returns-else-line-last t c =
    let is = ap statement_of c.in-Send.is ∙ tree_send c.in-Send.line c.in-Send.command c.in-Send.arms in
    let lines = lines_of_arms (arms_in c.in-Send.arms.items) in
    c.last_arm_line.ensures
    ∙ (ap (λ arms. last_of_climb c.in-Send.line (lines_of_arms (arms_in arms))) c.deref.ensures.value
    ∙ sym (ap (λ s. last_of_climb c.args.last (lines_of s)) is ∙ climbed_above c.args.last c.in-Send.line lines (lt-ltb _ _ (omega (arith, c.if-line-last.false)))))

pub last_statement_line-returns-in-Repeat : goal.last_statement_line-returns-in-Repeat
last_statement_line-returns-in-Repeat t c =
    let is = ap statement_of c.in-Repeat.is ∙ tree_repeat c.in-Repeat.count c.in-Repeat.body in
    c.last_line.ensures ∙ sym (ap (λ s. last_of_climb c.args.last (lines_of s)) is)
