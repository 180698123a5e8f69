-- Agrees with docs/MODEL.md, 'Safe scenarios and legal histories'.
-- Which histories are legal.
use Rattle.std.specs.Prelude.{◌≡◌, List}
use Rattle.pr_unit.specs.UnitStates.{UnitState}
use Rattle.pr_roles.specs.declared.item.Item.{Item}
use Rattle.pr_roles.specs.Scenarios.{Scenario}
use Rattle.pr_roles.specs.Worlds.{World, Event, Run, world_from}

-- the history is that of some run from this state
abbrev pub IsLegal : Scenario → UnitState → List Item → Type 0
IsLegal s u history = (es : List Event) × (w : World) × Run s (world_from s u) es w × (w.history ≡ history)
