use Rattle.pr_roles.proofs.Common.{◌≡◌, map, length, bytes_eq, are_distinct}
use Rattle.pr_roles.proofs.fitting.are_named_apart.Given as goal

abbrev pub invariant-loop-first : goal.invariant-loop-first
invariant-loop-first l =
    are_distinct bytes_eq (map (λ n. n.name.bytes) l.nexuses) ≡ are_distinct bytes_eq (map (λ n. n.name.bytes) l.rest)

abbrev pub decreases-loop-first : goal.decreases-loop-first
decreases-loop-first l = length l.rest
