use Rattle.pr_text.proofs.Common.{◌≡◌, map, length, each, held_of, draft_seen}
use Rattle.pr_lines.specs.inside.Lists.{each_onto}
use Rattle.pr_lines.specs.LineValues.{wanted_seen}
use Rattle.pr_text.proofs.builder.Builder.reservations_of.Given as goal

-- the reservations that are left, behind those so far
abbrev pub invariant-loop-first : goal.invariant-loop-first
invariant-loop-first l =
    each_onto (held_of (map draft_seen l.self.nexuses.items)) l.reservations.items (map wanted_seen l.rest)
    ≡ each (held_of (map draft_seen l.self.nexuses.items)) (map wanted_seen l.wanted)

abbrev pub decreases-loop-first : goal.decreases-loop-first
decreases-loop-first l = length l.rest
