-- The lines of the rows from this statement on are left, or of those of the bodies from this arm on. Each call has fewer rows to
-- write, or as many and less around them.
use Rattle.pr_table.proofs.Common.{◌≡◌, ◌≤◌, ◌+◌, drop, script_of, statement_of, statements_in, arms_in, Wrote, row_count, row_count_of_all, row_count_of_arms, rows_of_all, rows_of_arms, rows_text}
use Rattle.std.proofs.Common.{◌*◌}
use Rattle.pr_table.proofs.writing.+rows.Given as goal

abbrev pub decreases-put_statements : goal.decreases-put_statements
decreases-put_statements g l = 3 * row_count_of_all (statements_in l.statements.now) + 2

abbrev pub decreases-put_statement : goal.decreases-put_statement
decreases-put_statement g l = 3 * row_count (statement_of l.statement.now) + 1

abbrev pub decreases-put_bodies : goal.decreases-put_bodies
decreases-put_bodies g l = 3 * row_count_of_arms (arms_in l.arms.now) + 3

abbrev pub decreases-put_body : goal.decreases-put_body
decreases-put_body g l = 3 * row_count_of_all (script_of l.body.now) + 3

abbrev pub invariant-put_statements-loop-i : goal.invariant-put_statements-loop-i
invariant-put_statements-loop-i g l = record {
  wrote : Wrote (g.W.Write.contents l.fn.writer) (g.W.Write.contents l.writer)
      (rows_text l.at (rows_of_all l.at l.next l.past (statements_in l.statements)))
      (rows_text l.row (rows_of_all l.row l.next l.past (statements_in (drop l.i l.statements))));
  after : l.at ≤ l.row;
  row : l.row + row_count_of_all (statements_in (drop l.i l.statements)) ≡ l.at + row_count_of_all (statements_in l.statements);
}

abbrev pub invariant-put_bodies-loop-arm : goal.invariant-put_bodies-loop-arm
invariant-put_bodies-loop-arm g l = record {
  wrote : Wrote (g.W.Write.contents l.fn.writer) (g.W.Write.contents l.writer)
      (rows_text l.at (rows_of_arms l.at l.next l.past (arms_in l.arms)))
      (rows_text l.row (rows_of_arms l.row l.next l.past (arms_in (drop l.arm-index l.arms))));
  after : l.at ≤ l.row;
  row : l.row + row_count_of_arms (arms_in (drop l.arm-index l.arms)) ≡ l.at + row_count_of_arms (arms_in l.arms);
}
