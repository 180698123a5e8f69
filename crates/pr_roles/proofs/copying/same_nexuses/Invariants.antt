use Rattle.pr_roles.proofs.Common.{◌≡◌, map, take, nexus_of}
use Rattle.pr_roles.proofs.copying.same_nexuses.Given as goal

-- those before this one are equal
abbrev pub invariant-loop-i : goal.invariant-loop-i
invariant-loop-i l = map nexus_of (take l.i l.nexuses) ≡ map nexus_of (take l.i l.others)
