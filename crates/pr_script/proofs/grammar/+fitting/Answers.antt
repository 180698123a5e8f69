-- A statement by its kind, and one statement or arm more.
use Rattle.pr_script.proofs.Common.{◌+◌, ◌&&◌, nat_lt, sym, ap, ◌∙◌, statement_fits, arms_fit, statement_of, MOST_OPEN, arms_in}
use Rattle.pr_script.specs.Grammar.{is_send_written}
use Rattle.pr_script.proofs.lemmas.Trees.Equations.{tree_send, tree_repeat}
use Rattle.pr_script.proofs.lemmas.Versions.Statements.{fit_taken, arms_taken, and_one, and_none}
use Rattle.pr_script.proofs.grammar.+fitting.Goals as goal
use Rattle.pr_script.proofs.grammar.+fitting.Goals.{statements_fit-then-fit, statements_fit-else-fit, arms_fit-then-fit, arms_fit-else-fit}

pub statement_fits-returns-in-Send : goal.statement_fits-returns-in-Send
statement_fits-returns-in-Send t c =
    let is = ap statement_of c.in-Send.is ∙ tree_send c.in-Send.line c.in-Send.command c.in-Send.arms in
    let fits = ap (statement_fits c.args.keys.now c.args.repeated c.args.sent) is in
    c.send_fits.ensures
    ∙ (ap (λ arms. is_send_written c.args.keys.now c.in-Send.command (arms_in arms) && (nat_lt c.args.sent MOST_OPEN && arms_fit c.args.keys.now c.args.repeated (c.args.sent + 1) c.in-Send.command (arms_in arms))) c.deref.ensures.value
    ∙ sym fits)

pub statement_fits-returns-in-Repeat : goal.statement_fits-returns-in-Repeat
statement_fits-returns-in-Repeat t c =
    let is = ap statement_of c.in-Repeat.is ∙ tree_repeat c.in-Repeat.count c.in-Repeat.body in
    c.repeat_fits.ensures ∙ sym (ap (statement_fits c.args.keys.now c.args.repeated c.args.sent) is)

pub statements_fit-loop-statement-preserved : goal.statements_fit-loop-statement-preserved
statements_fit-loop-statement-preserved t c =
    let more = fit_taken c.args.keys.now c.args.repeated c.args.sent _ c.loop-statement.statement-index c.statement-item.result c.loop-statement-test.true c.statement-item.is in
    elim c.if-fit.branch [
      | statements_fit-then-fit w ↦ and_one _ c.loop-statement.invariant w.if-fit.true (w.fit-is ∙ w.statement_fits-fit.ensures) ∙ sym more
      | statements_fit-else-fit w ↦ and_none _ c.loop-statement.invariant w.if-fit.false w.fit-is ∙ sym more
    ]

pub arms_fit-loop-arm-preserved : goal.arms_fit-loop-arm-preserved
arms_fit-loop-arm-preserved t c =
    let more = arms_taken c.args.keys.now c.args.repeated c.args.sent c.args.command _ c.loop-arm.arm-index c.arm-item.result c.loop-arm-test.true c.arm-item.is in
    elim c.if-fit.branch [
      | arms_fit-then-fit w ↦ and_one _ c.loop-arm.invariant w.if-fit.true (w.fit-is ∙ w.arm_fits-fit.ensures) ∙ sym more
      | arms_fit-else-fit w ↦ and_none _ c.loop-arm.invariant w.if-fit.false w.fit-is ∙ sym more
    ]
