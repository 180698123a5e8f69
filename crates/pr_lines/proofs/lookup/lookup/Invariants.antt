use Rattle.pr_lines.proofs.Common.{◌≡◌, map, length}
use Rattle.pr_lines.specs.Lookups.{lookup}
use Rattle.pr_lines.proofs.lookup.lookup.Given as goal

abbrev pub invariant-loop-table : goal.invariant-loop-table
invariant-loop-table g l = lookup (map (λ k. (k.0.now, k.1)) l.table) l.word ≡ lookup (map (λ k. (k.0.now, k.1)) l.initial.table) l.word

abbrev pub decreases-loop-table : goal.decreases-loop-table
decreases-loop-table g l = length l.table
