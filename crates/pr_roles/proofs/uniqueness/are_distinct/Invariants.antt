use Rattle.pr_roles.proofs.Common.{◌≡◌, length, are_distinct}
use Rattle.pr_roles.proofs.uniqueness.are_distinct.Given as goal

abbrev pub invariant-loop-first : goal.invariant-loop-first
invariant-loop-first g l = are_distinct g.T.PartialEq.eq l.items ≡ are_distinct g.T.PartialEq.eq l.rest

abbrev pub decreases-loop-first : goal.decreases-loop-first
decreases-loop-first g l = length l.rest
