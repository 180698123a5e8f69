-- A condition holds of a nexus of a state as it does of a sender.
use Rattle.pr_regions.proofs.Common.{◌≡◌, ℕ, Option, Some, None, refl, Held, One, All, State, is_registered}
use Rattle.pr_roles.specs.declared.role.Condition.{Condition}
use Rattle.pr_roles.specs.declared.role.Condition.TheVariants as condition
use Rattle.pr_roles.specs.Permits.{holds}
use Rattle.pr_regions.specs.Conditions.{is_holder_as, holds_as}

pub holds_by : (condition : Option Condition) (u : State) (h : ℕ) → holds condition u h ≡ holds_as condition u.held h (is_registered u h)
holds_by None u h = refl
holds_by (Some condition.Registered) u h = refl
holds_by (Some condition.Holder) u h = at u.held
  where
    at : (held : Option Held) → holds (Some condition.Holder) (record u { held = held }) h ≡ is_holder_as held h (is_registered u h)
    at None = refl
    at (Some (One kind g)) = refl
    at (Some (All kind)) = refl
holds_by (Some condition.Reserved) u h = refl
