-- The nexuses of a scenario at a start.
use Rattle.std.specs.Prelude.{◌≡◌, ℕ, ◌<◌, true, List, Some}
use Rattle.std.specs.FinSet as set
use Rattle.std.specs.List.{slice_get, Contains}
use Rattle.pr_registry.specs.Registrations.{key_of}
use Rattle.pr_unit.specs.UnitStates.{UnitState, is_pending}
use Rattle.pr_roles.specs.declared.parts.Nexus.{Nexus}

-- the nexus may be registered as h is, and each code that is pending for h may be pending for it
pub record MayStart (n : Nexus) (u : UnitState) (h : ℕ) : Type 0 where
  pub registration : Contains n.start.alternatives.items (key_of u.registry h)
  pub pending : (code : ℕ) → is_pending u h code ≡ true → set.contains n.pending code ≡ true

-- so may each whose number is below this one
abbrev pub MayStartBelow : List Nexus → UnitState → ℕ → Type 0
MayStartBelow ns u top = (h : ℕ) → h < top → (n : Nexus) → slice_get ns h ≡ Some n → MayStart n u h
