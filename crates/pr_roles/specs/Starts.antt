-- Agrees with docs/MODEL.md, 'Starts'.
-- The states that a scenario may start from.
use Rattle.std.specs.Prelude.{◌≡◌, ℕ, true, Some, length}
use Rattle.std.specs.FinSet as set
use Rattle.std.specs.List.{Contains}
use Rattle.pr_registry.specs.Registrations.{key_of}
use Rattle.pr_unit.specs.UnitStates.{UnitState, IsWellFormed, is_pending}
use Rattle.pr_roles.specs.Scenarios.{Scenario, Nexus, nexus}

-- The state is well formed. Each host and guest is registered as one of its alternatives says, and nothing is
-- pending for it but what was written; the reservation is one of the alternatives. The generation is any.
pub record IsAllowedStart (s : Scenario) (u : UnitState) : Type 0 where
  pub formed : IsWellFormed u
  pub hosts : u.registry.hosts ≡ length s.nexuses
  pub registrations : (h : ℕ) (n : Nexus) → nexus s h ≡ Some n → Contains n.start (key_of u.registry h)
  pub reservation : Contains s.reservations u.registry.held
  pub pending : (h code : ℕ) (n : Nexus) → nexus s h ≡ Some n → is_pending u h code ≡ true → set.contains n.pending code ≡ true

-- some state is allowed
pub record CanStart (s : Scenario) : Type 0 where
  pub unit : UnitState
  pub allowed : IsAllowedStart s unit
