-- Where a statement goes on by its kind, and one statement or arm more.
use Rattle.std.proofs.Common.{List, ◌&&◌, ◌||◌, sym, ap, ◌∙◌}
use Rattle.pr_script.specs.Trees.{statement_of}
use Rattle.pr_script.specs.inside.ArmLists.{arms_in}
use Rattle.pr_script.specs.declared.script.Arm.{Arm}
use Rattle.pr_script.proofs.lemmas.Trees.Equations.{tree_send, tree_repeat}
use Rattle.pr_commands.specs.Sayings.{arms_leave, arms_pass, leaves, passes}
use Rattle.pr_commands.proofs.lemmas.Sayings.Statements.{arms_leave_taken, arms_pass_taken, leave_taken, pass_taken}
use Rattle.pr_commands.proofs.saying.+passage.Goals as goal

pub passage_of-loop-statement-preserved : goal.passage_of-loop-statement-preserved
passage_of-loop-statement-preserved t c =
    let so_far = c.loop-statement.invariant in
    let next = c.passage_of_statement.ensures in (
      c.then-passage.ensures.passes ∙ (λ i. so_far.0 i && next.passes i) ∙ sym (pass_taken _ c.loop-statement.statement-index c.statement-item.result c.loop-statement-test.true c.statement-item.is),
      c.then-passage.ensures.leaves ∙ (λ i. so_far.1 i || (so_far.0 i && next.leaves i)) ∙ sym (leave_taken _ c.loop-statement.statement-index c.statement-item.result c.loop-statement-test.true c.statement-item.is),
    )

pub passage_of_arms-loop-arm-preserved : goal.passage_of_arms-loop-arm-preserved
passage_of_arms-loop-arm-preserved t c =
    let so_far = c.loop-arm.invariant in
    let next = c.passage_of.ensures in (
      c.or-passage.ensures.passes ∙ (λ i. so_far.0 i || next.passes i) ∙ sym (arms_pass_taken _ c.loop-arm.arm-index c.arm-item.result c.loop-arm-test.true c.arm-item.is),
      c.or-passage.ensures.leaves ∙ (λ i. so_far.1 i || next.leaves i) ∙ sym (arms_leave_taken _ c.loop-arm.arm-index c.arm-item.result c.loop-arm-test.true c.arm-item.is),
    )

pub passage_of_statement-returns-in-Send-clause-passes : goal.passage_of_statement-returns-in-Send-clause-passes
passage_of_statement-returns-in-Send-clause-passes t c =
    let is = ap statement_of c.in-Send.is ∙ tree_send c.in-Send.line c.in-Send.command c.in-Send.arms in
    c.passage_of_arms.ensures.passes ∙ ap (λ (arms : List Arm). arms_pass (arms_in arms)) c.deref.ensures.value ∙ sym (ap passes is)

pub passage_of_statement-returns-in-Send-clause-leaves : goal.passage_of_statement-returns-in-Send-clause-leaves
passage_of_statement-returns-in-Send-clause-leaves t c =
    let is = ap statement_of c.in-Send.is ∙ tree_send c.in-Send.line c.in-Send.command c.in-Send.arms in
    c.passage_of_arms.ensures.leaves ∙ ap (λ (arms : List Arm). arms_leave (arms_in arms)) c.deref.ensures.value ∙ sym (ap leaves is)

pub passage_of_statement-returns-in-Repeat-clause-passes : goal.passage_of_statement-returns-in-Repeat-clause-passes
passage_of_statement-returns-in-Repeat-clause-passes t c =
    let is = ap statement_of c.in-Repeat.is ∙ tree_repeat c.in-Repeat.count c.in-Repeat.body in
    c.repeated.ensures.passes ∙ (λ i. c.passage_of.ensures.passes i || c.passage_of.ensures.leaves i) ∙ sym (ap passes is)
