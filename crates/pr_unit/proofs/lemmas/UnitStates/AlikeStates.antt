-- States that are alike for one nexus.
use Rattle.pr_unit.proofs.Common.{◌≡◌, ℕ, UnitState, is_pending}

-- the same registry, and the same is pending for it
pub record IsLike (own : ℕ) (u w : UnitState) : Type 0 where
  pub registry : w.registry ≡ u.registry
  pub pending : (code : ℕ) → is_pending w own code ≡ is_pending u own code
