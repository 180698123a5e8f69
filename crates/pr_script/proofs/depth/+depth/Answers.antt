-- A statement's depth by its kind, and one statement or arm more.
use Rattle.pr_script.proofs.Common.{◌+◌, min, ap, ◌∙◌, arith, depth_of, depth_of_arms, statement_of, MOST_OPEN, arms_in}
use Rattle.pr_script.proofs.lemmas.Trees.Equations.{tree_send, tree_repeat}
use Rattle.pr_script.proofs.lemmas.Trees.ListTails.{depth_taken, depth_of_arms_taken}
use Rattle.pr_script.proofs.depth.+depth.Goals as goal

pub repeat_depth-loop-statement-preserved : goal.repeat_depth-loop-statement-preserved
repeat_depth-loop-statement-preserved t c =
    omega (arith, depth_taken _ c.loop-statement.statement-index c.statement-item.result c.loop-statement-test.true c.statement-item.is)

pub arms_depth-loop-arm-preserved : goal.arms_depth-loop-arm-preserved
arms_depth-loop-arm-preserved t c =
    omega (arith, depth_of_arms_taken _ c.loop-arm.arm-index c.arm-item.result c.loop-arm-test.true c.arm-item.is)

pub statement_depth-returns-in-Send : goal.statement_depth-returns-in-Send
statement_depth-returns-in-Send t c =
    let deep = ap (λ s. depth_of (statement_of s)) c.in-Send.is ∙ ap depth_of (tree_send c.in-Send.line c.in-Send.command c.in-Send.arms) in
    let most = c.arms_depth.ensures ∙ ap (λ arms. min (MOST_OPEN + 1) (depth_of_arms (arms_in arms))) c.deref.ensures.value in
    omega arith

pub statement_depth-returns-in-Repeat : goal.statement_depth-returns-in-Repeat
statement_depth-returns-in-Repeat t c =
    let deep = ap (λ s. depth_of (statement_of s)) c.in-Repeat.is ∙ ap depth_of (tree_repeat c.in-Repeat.count c.in-Repeat.body) in
    omega arith
