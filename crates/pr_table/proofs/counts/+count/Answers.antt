-- How many rows a statement has, by its kind, and one statement or arm more.
use Rattle.pr_table.proofs.Common.{◌+◌, ap, ◌∙◌, arith, statement_of, arms_in, tree_send, tree_repeat, MOST_ROWS, row_count, row_count_of_arms}
use Rattle.std.proofs.Common.{min}
use Rattle.pr_table.proofs.lemmas.Rows.Counts.{rows_taken, arm_rows_taken}
use Rattle.pr_table.proofs.counts.+count.Goals as goal

pub row_count_of_all-loop-statement-preserved : goal.row_count_of_all-loop-statement-preserved
row_count_of_all-loop-statement-preserved t c =
    omega (arith, rows_taken _ c.loop-statement.statement-index c.statement-item.result c.loop-statement-test.true c.statement-item.is)

pub row_count_of_arms-loop-arm-preserved : goal.row_count_of_arms-loop-arm-preserved
row_count_of_arms-loop-arm-preserved t c =
    omega (arith, arm_rows_taken _ c.loop-arm.arm-index c.arm-item.result c.loop-arm-test.true c.arm-item.is)

pub row_count-returns-in-Send : goal.row_count-returns-in-Send
row_count-returns-in-Send t c =
    let counts = ap (λ s. row_count (statement_of s)) c.in-Send.is ∙ ap row_count (tree_send c.in-Send.line c.in-Send.command c.in-Send.arms) in
    let most = c.row_count_of_arms.ensures ∙ ap (λ arms. min (MOST_ROWS + 1) (row_count_of_arms (arms_in arms))) c.deref.ensures.value in
    omega arith

pub row_count-returns-in-Repeat : goal.row_count-returns-in-Repeat
row_count-returns-in-Repeat t c =
    let counts = ap (λ s. row_count (statement_of s)) c.in-Repeat.is ∙ ap row_count (tree_repeat c.in-Repeat.count c.in-Repeat.body) in
    omega arith
