use Rattle.pr_roles.proofs.Common.{◌≡◌, map, take, nexus_of}
use Rattle.pr_roles.proofs.copying.copied_nexuses.Given as goal

-- what was copied so far is equal
abbrev pub invariant-loop-nexus : goal.invariant-loop-nexus
invariant-loop-nexus l = record {
  nexuses : map nexus_of l.copies.items ≡ map nexus_of (take l.nexus-index l.nexuses);
  paths : map (λ n. n.shared) l.copies.items ≡ map (λ n. n.shared) (take l.nexus-index l.nexuses);
}
