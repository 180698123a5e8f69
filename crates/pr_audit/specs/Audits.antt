-- Agrees with docs/FORMATS.md, 'Auditing'.
-- What an audit says of a history.
use Rattle.std.specs.Prelude.{◌≡◌, ◌↔◌, ℕ, ◌≤◌, ◌<◌, List, Some, length, take}
use Rattle.pr_unit.specs.UnitStates.{UnitState}
use Rattle.pr_roles.specs.declared.item.Item.{Item}
use Rattle.pr_roles.specs.Scenarios.{Scenario}
use Rattle.pr_roles.specs.FirstStarts.{first_state}
use Rattle.pr_roles.specs.LegalHistories.{IsLegal}
use Rattle.pr_audit.specs.declared.auditing.AuditError.{AuditError}
use Rattle.pr_audit.specs.declared.auditing.AuditError.TheVariants.{Illegal, Memory}

-- the history is legal from the first start of the scenario
pub record IsLegalFromFirst (s : Scenario) (history : List Item) : Type 0 where
  pub start : UnitState
  pub first : first_state s ≡ Some start
  pub legal : IsLegal s start history

-- The item at this place, counted from 1, is the first that isn't legal: the first n items are legal just where n is
-- less.
pub record IsFirstIllegal (s : Scenario) (history : List Item) (place : ℕ) : Type 0 where
  pub within : (1 ≤ place) × (place ≤ length history)
  pub exactly : (n : ℕ) → IsLegalFromFirst s (take n history) ↔ (n < place)

-- what an audit's answer says of a history that it doesn't accept: where memory ran out, nothing
abbrev pub Refuses : Scenario → List Item → AuditError → Type 0
Refuses s history (Illegal place) = IsFirstIllegal s history place
Refuses s history Memory = Unit {0}
