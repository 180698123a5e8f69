use Rattle.pr_lines.proofs.Common.{◌≡◌, length, each, words, each_onto}
use Rattle.pr_lines.specs.WordTerms.{key_of}
use Rattle.pr_lines.proofs.item.keys_in.Given as goal

-- the words that are left, behind what was read
abbrev pub invariant-loop-word : goal.invariant-loop-word
invariant-loop-word l = each_onto key_of l.keys.items (words l.rest) ≡ each key_of (words l.line)

abbrev pub decreases-loop-word : goal.decreases-loop-word
decreases-loop-word l = length l.rest
