use Rattle.pr_lines.proofs.Common.{◌≡◌, ◌≤◌, length, words}
use Rattle.pr_lines.proofs.cutting.next_word.Given as goal

abbrev pub invariant-loop-rest : goal.invariant-loop-rest
invariant-loop-rest l = (words l.rest ≡ words l.line) × (length l.rest ≤ length l.line)

abbrev pub decreases-loop-rest : goal.decreases-loop-rest
decreases-loop-rest l = length l.rest
