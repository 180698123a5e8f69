-- How many statements a statement is, by its kind, and one statement or arm more.
use Rattle.pr_script.proofs.Common.{◌+◌, min, ap, ◌∙◌, arith, count_in_arms, statement_of, arms_in}
use Rattle.pr_script.specs.declared.limits.TheConstants.{MOST_STATEMENTS}
use Rattle.pr_script.specs.Grammar.{count_of}
use Rattle.pr_script.proofs.lemmas.Trees.Equations.{tree_send, tree_repeat}
use Rattle.pr_script.proofs.lemmas.Versions.Statements.{count_taken, arms_count_taken}
use Rattle.pr_script.proofs.counts.+count.Goals as goal

pub count-loop-statement-preserved : goal.count-loop-statement-preserved
count-loop-statement-preserved t c =
    omega (arith, count_taken _ c.loop-statement.statement-index c.statement-item.result c.loop-statement-test.true c.statement-item.is)

pub arms_count-loop-arm-preserved : goal.arms_count-loop-arm-preserved
arms_count-loop-arm-preserved t c =
    omega (arith, arms_count_taken _ c.loop-arm.arm-index c.arm-item.result c.loop-arm-test.true c.arm-item.is)

pub statement_count-returns-in-Send : goal.statement_count-returns-in-Send
statement_count-returns-in-Send t c =
    let counts = ap (λ s. count_of (statement_of s)) c.in-Send.is ∙ ap count_of (tree_send c.in-Send.line c.in-Send.command c.in-Send.arms) in
    let most = c.arms_count.ensures ∙ ap (λ arms. min (MOST_STATEMENTS + 1) (count_in_arms (arms_in arms))) c.deref.ensures.value in
    omega arith

pub statement_count-returns-in-Repeat : goal.statement_count-returns-in-Repeat
statement_count-returns-in-Repeat t c =
    let counts = ap (λ s. count_of (statement_of s)) c.in-Repeat.is ∙ ap count_of (tree_repeat c.in-Repeat.count c.in-Repeat.body) in
    omega arith
