-- A copy's kind, and one statement or arm more.
use Rattle.pr_script.proofs.Common.{sym, refl, ap, ◌∙◌, sends, repeats, statement_of, statements_in, arms_in}
use Rattle.pr_script.proofs.lemmas.Trees.Equations.{tree_send, tree_repeat}
use Rattle.pr_script.proofs.lemmas.Trees.ListTails.{statements_taken, arms_taken}
use Rattle.pr_script.proofs.script.+copy.Goals as goal

pub Statement::copy-returns-in_ok-arms-in-Send : goal.Statement::copy-returns-in_ok-arms-in-Send
Statement::copy-returns-in_ok-arms-in-Send t c =
    tree_send c.in-Send.line c.in-Send.command c.in_ok-arms-in-Send.arms
    ∙ ap (sends c.in-Send.line c.in-Send.command) (c.in_ok-arms-in-Send.ensures ∙ ap arms_in c.deref.ensures.value)
    ∙ sym (tree_send c.in-Send.line c.in-Send.command c.in-Send.arms)
    ∙ sym (ap statement_of c.in-Send.is)

pub Statement::copy-returns-in_ok-body-in-Repeat : goal.Statement::copy-returns-in_ok-body-in-Repeat
Statement::copy-returns-in_ok-body-in-Repeat t c =
    tree_repeat c.in-Repeat.count c.in_ok-body-in-Repeat.body
    ∙ ap (repeats c.in-Repeat.count) c.in_ok-body-in-Repeat.ensures
    ∙ sym (tree_repeat c.in-Repeat.count c.in-Repeat.body)
    ∙ sym (ap statement_of c.in-Repeat.is)

pub Script::copy-loop-statement-preserved : goal.Script::copy-loop-statement-preserved
Script::copy-loop-statement-preserved t c =
    ap statements_in c.in_ok-push.ensures.items
    ∙ statements_taken c.deref-statement-items.result.now c.loop-statement.statements.items c.loop-statement.statement-index
    c.statement-item.result c.in_ok-copy.field-0 c.loop-statement-test.true c.statement-item.is c.loop-statement.invariant c.in_ok-copy.ensures

pub copied_arms-loop-arm-preserved : goal.copied_arms-loop-arm-preserved
copied_arms-loop-arm-preserved t c =
    ap arms_in c.in_ok-push.ensures.items
    ∙ arms_taken c.args.arms.now c.loop-arm.copies.items c.loop-arm.arm-index c.arm-item.result
    (record { test = c.arm-item.result.test; body = c.in_ok-body.body })
    c.loop-arm-test.true c.arm-item.is c.loop-arm.invariant refl c.in_ok-body.ensures
