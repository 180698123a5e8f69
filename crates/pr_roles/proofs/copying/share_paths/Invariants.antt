use Rattle.pr_roles.proofs.Common.{◌≡◌, ℕ, ◌<◌, true, map, nexus_of}
use Rattle.pr_roles.specs.Scenarios.{is_shared_by}
use Rattle.pr_roles.proofs.copying.share_paths.Given as goal

-- the paths of those before this one are shared, and nothing else is another
abbrev pub invariant-loop-i : goal.invariant-loop-i
invariant-loop-i l = record {
  nexuses : map nexus_of l.nexuses ≡ map nexus_of l.fn.nexuses;
  paths : (h : ℕ) → h < l.i → is_shared_by (map (λ n. n.shared) l.nexuses) h ≡ true;
}
