use Rattle.pr_roles.proofs.Common.{◌≡◌, map, take, first_of, start_of}
use Rattle.pr_roles.proofs.first.first_keys.Given as goal

abbrev pub invariant-loop-nexus : goal.invariant-loop-nexus
invariant-loop-nexus l = l.keys.items ≡ map first_of (map start_of (take l.nexus-index l.nexuses))
