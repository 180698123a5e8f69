-- How many statements there are before this one, or in the arms before this one.
use Rattle.pr_script.proofs.Common.{◌≡◌, ◌+◌, min, take, count_in_arms, statements_in, arms_in}
use Rattle.pr_script.specs.declared.limits.TheConstants.{MOST_STATEMENTS}
use Rattle.pr_script.specs.Grammar.{count_of_all}
use Rattle.pr_script.proofs.counts.+count.Given as goal

abbrev pub invariant-count-loop-statement : goal.invariant-count-loop-statement
invariant-count-loop-statement l = l.total ≡ min (MOST_STATEMENTS + 1) (count_of_all (statements_in (take l.statement-index l.statement-items)))

abbrev pub invariant-arms_count-loop-arm : goal.invariant-arms_count-loop-arm
invariant-arms_count-loop-arm l = l.total ≡ min (MOST_STATEMENTS + 1) (count_in_arms (arms_in (take l.arm-index l.arms)))
