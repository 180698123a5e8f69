-- No two before this one are of the same.
use Rattle.pr_commands.proofs.Common.{◌≡◌, length}
use Rattle.pr_roles.specs.Fitting.{are_distinct}
use Rattle.pr_commands.specs.Facts.{are_of_the_same}
use Rattle.pr_commands.proofs.facts.are_of_others.Given as goal

abbrev pub invariant-loop-first : goal.invariant-loop-first
invariant-loop-first l = are_distinct are_of_the_same l.facts ≡ are_distinct are_of_the_same l.rest

abbrev pub decreases-loop-first : goal.decreases-loop-first
decreases-loop-first l = length l.rest
