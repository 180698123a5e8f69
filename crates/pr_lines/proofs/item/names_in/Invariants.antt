use Rattle.pr_lines.proofs.Common.{◌≡◌, map, length, each, words, each_onto}
use Rattle.pr_lines.specs.WordTerms.{name_of}
use Rattle.pr_lines.proofs.item.names_in.Given as goal

-- the words that are left, behind what was read
abbrev pub invariant-loop-word : goal.invariant-loop-word
invariant-loop-word l = each_onto name_of (map (λ name. name.bytes) l.names.items) (words l.rest) ≡ each name_of (words l.line)

abbrev pub decreases-loop-word : goal.decreases-loop-word
decreases-loop-word l = length l.rest
