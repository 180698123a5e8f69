use Rattle.pr_audit.proofs.Common.{◌≡◌, map, take, nexus_of, control_of, control_by}
use Rattle.pr_audit.proofs.auditor.senders_of.Given as goal

-- those before this one are at their beginning
abbrev pub invariant-loop-nexus : goal.invariant-loop-nexus
invariant-loop-nexus l = map control_by l.senders.items ≡ map (λ n. control_of n.task) (map nexus_of (take l.nexus-index l.nexus-items))
