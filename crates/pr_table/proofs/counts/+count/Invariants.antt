-- How many rows the statements before this one have, or the arms before this one.
use Rattle.pr_table.proofs.Common.{◌≡◌, ◌+◌, statements_in, arms_in, MOST_ROWS, row_count_of_all, row_count_of_arms}
use Rattle.std.proofs.Common.{min, take}
use Rattle.pr_table.proofs.counts.+count.Given as goal

abbrev pub invariant-row_count_of_all-loop-statement : goal.invariant-row_count_of_all-loop-statement
invariant-row_count_of_all-loop-statement l = l.total ≡ min (MOST_ROWS + 1) (row_count_of_all (statements_in (take l.statement-index l.statement-items)))

abbrev pub invariant-row_count_of_arms-loop-arm : goal.invariant-row_count_of_arms-loop-arm
invariant-row_count_of_arms-loop-arm l = l.total ≡ min (MOST_ROWS + 1) (row_count_of_arms (arms_in (take l.arm-index l.arms)))
