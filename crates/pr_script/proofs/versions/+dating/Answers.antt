-- A statement by its kind, and one statement or arm more.
use Rattle.pr_script.proofs.Common.{sym, ap, ◌∙◌, statement_of, are_arms_of, arms_in}
use Rattle.pr_script.specs.Versions.{is_statement_of}
use Rattle.pr_script.proofs.lemmas.Trees.Equations.{tree_send, tree_repeat}
use Rattle.pr_script.proofs.lemmas.Versions.Statements.{dated_taken, arms_dated_taken, and_one, and_none}
use Rattle.pr_script.proofs.versions.+dating.Goals as goal
use Rattle.pr_script.proofs.versions.+dating.Goals.{is_script_of-then-are, is_script_of-else-are, are_arms_of-then-are, are_arms_of-else-are}

pub is_statement_of-returns-in-Send : goal.is_statement_of-returns-in-Send
is_statement_of-returns-in-Send t c =
    let is = ap statement_of c.in-Send.is ∙ tree_send c.in-Send.line c.in-Send.command c.in-Send.arms in
    c.are_arms_of.ensures
    ∙ (ap (λ arms. are_arms_of c.args.version (arms_in arms)) c.deref.ensures.value
    ∙ sym (ap (is_statement_of c.args.version) is))

pub is_statement_of-returns-in-Repeat : goal.is_statement_of-returns-in-Repeat
is_statement_of-returns-in-Repeat t c =
    let is = ap statement_of c.in-Repeat.is ∙ tree_repeat c.in-Repeat.count c.in-Repeat.body in
    c.is_script_of.ensures ∙ sym (ap (is_statement_of c.args.version) is)

pub is_script_of-loop-statement-preserved : goal.is_script_of-loop-statement-preserved
is_script_of-loop-statement-preserved t c =
    let more = dated_taken c.args.version _ c.loop-statement.statement-index c.statement-item.result c.loop-statement-test.true c.statement-item.is in
    elim c.if-are.branch [
      | is_script_of-then-are w ↦ and_one _ c.loop-statement.invariant w.if-are.true (w.are-is ∙ w.is_statement_of-are.ensures) ∙ sym more
      | is_script_of-else-are w ↦ and_none _ c.loop-statement.invariant w.if-are.false w.are-is ∙ sym more
    ]

pub are_arms_of-loop-arm-preserved : goal.are_arms_of-loop-arm-preserved
are_arms_of-loop-arm-preserved t c =
    let more = arms_dated_taken c.args.version _ c.loop-arm.arm-index c.arm-item.result c.loop-arm-test.true c.arm-item.is in
    elim c.if-are.branch [
      | are_arms_of-then-are w ↦ and_one _ c.loop-arm.invariant w.if-are.true (w.are-is ∙ w.is_arm_of-are.ensures) ∙ sym more
      | are_arms_of-else-are w ↦ and_none _ c.loop-arm.invariant w.if-are.false w.are-is ∙ sym more
    ]
