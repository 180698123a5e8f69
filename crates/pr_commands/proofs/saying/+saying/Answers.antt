-- What a statement says by its kind, and one statement or arm more.
use Rattle.std.proofs.Common.{Some, List, ◌||◌, sym, ap, ◌∙◌}
use Rattle.pr_script.specs.Trees.{statement_of}
use Rattle.pr_script.specs.inside.ArmLists.{arms_in}
use Rattle.pr_script.specs.declared.script.Arm.{Arm}
use Rattle.pr_script.proofs.lemmas.Trees.Equations.{tree_send, tree_repeat}
use Rattle.pr_explore.specs.Together.{exit_in}
use Rattle.pr_commands.specs.Sayings.{arms_say, is_line, says}
use Rattle.pr_commands.proofs.lemmas.Sayings.Statements.{arms_say_taken, or_other, or_true, say_taken}
use Rattle.pr_commands.proofs.saying.+saying.Goals as goal
use Rattle.pr_commands.proofs.saying.+saying.Goals.{all_say-then-say, all_say-else-say, arms_say-then-say, arms_say-else-say}

pub all_say-loop-statement-preserved : goal.all_say-loop-statement-preserved
all_say-loop-statement-preserved t c =
    let more = say_taken (exit_in (Some c.args.end.now)) _ c.loop-statement.statement-index c.statement-item.result c.loop-statement-test.true c.statement-item.is in
    elim c.if-say.branch [
      | all_say-then-say w ↦ or_true _ c.loop-statement.invariant w.if-say.true w.say-is ∙ sym more
      | all_say-else-say w ↦ or_other _ c.loop-statement.invariant w.if-say.false (w.say-is ∙ w.says-say.ensures) ∙ sym more
    ]

pub arms_say-loop-arm-preserved : goal.arms_say-loop-arm-preserved
arms_say-loop-arm-preserved t c =
    let more = arms_say_taken (exit_in (Some c.args.end.now)) _ c.loop-arm.arm-index c.arm-item.result c.loop-arm-test.true c.arm-item.is in
    elim c.if-say.branch [
      | arms_say-then-say w ↦ or_true _ c.loop-arm.invariant w.if-say.true w.say-is ∙ sym more
      | arms_say-else-say w ↦ or_other _ c.loop-arm.invariant w.if-say.false (w.say-is ∙ w.all_say-say.ensures) ∙ sym more
    ]

pub says-returns-in-Send : goal.says-returns-in-Send
says-returns-in-Send t c =
    let x = exit_in (Some c.args.end.now) in
    let is = ap statement_of c.in-Send.is ∙ tree_send c.in-Send.line c.in-Send.command c.in-Send.arms in
    c.send_says.ensures
    ∙ (ap (λ (arms : List Arm). is_line c.in-Send.line x || arms_say x (arms_in arms)) c.deref.ensures.value
    ∙ sym (ap (says x) is))

pub says-returns-in-Repeat : goal.says-returns-in-Repeat
says-returns-in-Repeat t c =
    let is = ap statement_of c.in-Repeat.is ∙ tree_repeat c.in-Repeat.count c.in-Repeat.body in
    c.all_say.ensures ∙ sym (ap (says (exit_in (Some c.args.end.now))) is)
