use Rattle.pr_text.proofs.Common.{◌≡◌, ◌+◌, ◌≤◌, length, lines, nothing, all_placed, declared_by}
use Rattle.pr_text.proofs.text.declared_in.Given as goal

-- the lines that are left, behind those that were read
abbrev pub invariant-loop-line : goal.invariant-loop-line
invariant-loop-line l =
    (all_placed l.number (lines l.rest) (declared_by l.builder) ≡ all_placed 0 (lines l.text) nothing)
    × (l.number + length (lines l.rest) ≡ length (lines l.text))
    × (l.number + length l.rest ≤ length l.text)

abbrev pub decreases-loop-line : goal.decreases-loop-line
decreases-loop-line l = length l.rest
