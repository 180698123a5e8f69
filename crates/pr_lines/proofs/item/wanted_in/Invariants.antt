use Rattle.pr_lines.proofs.Common.{◌≡◌, map, length, each, words, each_onto}
use Rattle.pr_lines.specs.ScenarioLines.{start_reservation_of}
use Rattle.pr_lines.specs.LineValues.{wanted_seen}
use Rattle.pr_lines.proofs.item.wanted_in.Given as goal

-- the words that are left, behind what was read
abbrev pub invariant-loop-word : goal.invariant-loop-word
invariant-loop-word l = each_onto start_reservation_of (map wanted_seen l.all.items) (words l.rest) ≡ each start_reservation_of (words l.line)

abbrev pub decreases-loop-word : goal.decreases-loop-word
decreases-loop-word l = length l.rest
