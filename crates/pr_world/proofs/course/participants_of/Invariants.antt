use Rattle.pr_world.proofs.Common.{◌≡◌, map, take, nexus_of, participation_of}
use Rattle.pr_world.specs.inside.Participations.{participation_from}
use Rattle.pr_world.proofs.course.participants_of.Given as goal

-- those before this one are at their beginning
abbrev pub invariant-loop-nexus : goal.invariant-loop-nexus
invariant-loop-nexus l = map participation_of l.participants.items ≡ map (λ n. participation_from n.task) (map nexus_of (take l.nexus-index l.nexus-items))
