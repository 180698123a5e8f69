-- The lines from this arm on are left.
use Rattle.pr_table.proofs.Common.{◌≡◌, ◌+◌, drop, flat_map, arms_in, Wrote, arm_rows, row_count_of_arms, arm_line}
use Rattle.pr_table.proofs.writing.put_arms.Given as goal

abbrev pub invariant-loop-arm : goal.invariant-loop-arm
invariant-loop-arm g l = record {
  wrote : Wrote (g.W.Write.contents l.fn.writer) (g.W.Write.contents l.writer)
      (flat_map arm_line (arm_rows l.at l.next (arms_in l.arms)))
      (flat_map arm_line (arm_rows l.row l.next (arms_in (drop l.arm-index l.arms))));
  row : l.row + row_count_of_arms (arms_in (drop l.arm-index l.arms)) ≡ l.at + row_count_of_arms (arms_in l.arms);
}
