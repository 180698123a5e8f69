use Rattle.pr_world.proofs.Common.{◌≡◌, map, take, Some, ending_of, ending, participation_of}
use Rattle.pr_world.proofs.course.ends_of.Given as goal

-- how those before this one stand
abbrev pub invariant-loop-participant : goal.invariant-loop-participant
invariant-loop-participant l = map (λ e. Some (ending_of e)) l.ends.items ≡ map (λ p. ending (participation_of p).control (participation_of p).plan) (take l.participant-index l.participants)
