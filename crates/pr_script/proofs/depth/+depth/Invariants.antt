-- How deep the statements or arms before this one nest.
use Rattle.pr_script.proofs.Common.{◌≡◌, ◌+◌, min, take, depth_of_all, depth_of_arms, statements_in, MOST_OPEN, arms_in}
use Rattle.pr_script.proofs.depth.+depth.Given as goal

abbrev pub invariant-repeat_depth-loop-statement : goal.invariant-repeat_depth-loop-statement
invariant-repeat_depth-loop-statement l = l.most ≡ min (MOST_OPEN + 1) (depth_of_all (statements_in (take l.statement-index l.statement-items)))

abbrev pub invariant-arms_depth-loop-arm : goal.invariant-arms_depth-loop-arm
invariant-arms_depth-loop-arm l = l.most ≡ min (MOST_OPEN + 1) (depth_of_arms (arms_in (take l.arm-index l.arms)))
