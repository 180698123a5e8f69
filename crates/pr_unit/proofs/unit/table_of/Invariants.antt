-- each host before this one has what is pending for it, and no code but the four
use Rattle.pr_unit.proofs.Common.{◌≡◌, ℕ, ◌<◌, List, length, MOST_NEXUSES, Codes, AreAttentions, place}
use Rattle.pr_unit.proofs.unit.table_of.Given as goal

pub record AreFilled (table pendings : List Codes) (host : ℕ) : Type 0 where
  pub whole : length table ≡ MOST_NEXUSES
  pub there : (h : ℕ) → h < host → place table h ≡ place pendings h
  pub members : (h : ℕ) → h < host → AreAttentions (place table h)

abbrev pub invariant-loop-host : goal.invariant-loop-host
invariant-loop-host l = AreFilled l.table l.pendings l.host
