-- The lines before this statement or arm rise to the last of them.
use Rattle.pr_script.proofs.Common.{◌≡◌, take, Some, lines_of_all, lines_of_arms, statements_in, arms_in, last_of_climb}
use Rattle.pr_script.proofs.counts.+lines.Given as goal

abbrev pub invariant-last_line-loop-statement : goal.invariant-last_line-loop-statement
invariant-last_line-loop-statement l =
    last_of_climb l.line (lines_of_all (statements_in (take l.statement-index l.statement-items))) ≡ Some l.last

abbrev pub invariant-last_arm_line-loop-arm : goal.invariant-last_arm_line-loop-arm
invariant-last_arm_line-loop-arm l = last_of_climb l.line (lines_of_arms (arms_in (take l.arm-index l.arms))) ≡ Some l.last
