-- Agrees with docs/VIEWS.md, 'What becomes of a view'.
-- The states that a scenario may start from.
use Rattle.pr_unit.specs.UnitStates.{UnitState}
use Rattle.pr_roles.specs.Scenarios.{Scenario}
use Rattle.pr_roles.specs.Starts.{IsAllowedStart}
use Rattle.pr_views.specs.Possibilities.{Item, IsSo}
use Rattle.pr_views.specs.Views.{View, IsPossible, Shows}

-- an allowed start in which this is so
pub record StartsSo (s : Scenario) (v : View) (i : Item) : Type 0 where
  pub unit : UnitState
  pub allowed : IsAllowedStart s unit
  pub is : IsSo v.scope unit i

-- The view shows each allowed start, and has nothing that is so in none of them.
pub record IsOfStart (s : Scenario) (v : View) : Type 0 where
  pub cover : (u : UnitState) → IsAllowedStart s u → Shows v u
  pub only : (i : Item) → IsPossible v i → StartsSo s v i
