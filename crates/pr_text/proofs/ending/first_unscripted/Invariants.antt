use Rattle.pr_text.proofs.Common.{◌≡◌, map, length, first_unscripted, draft_seen}
use Rattle.pr_text.proofs.ending.first_unscripted.Given as goal

abbrev pub invariant-loop-first : goal.invariant-loop-first
invariant-loop-first l = first_unscripted (map draft_seen l.rest) ≡ first_unscripted (map draft_seen l.nexuses)

abbrev pub decreases-loop-first : goal.decreases-loop-first
decreases-loop-first l = length l.rest
