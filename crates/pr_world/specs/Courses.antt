-- Agrees with docs/FORMATS.md, 'Replaying'.
-- A scenario at work: a world, and what is left of each guest's plan.
use Rattle.std.specs.Prelude.{◌≡◌, ℕ, List, [], ◌∷◌, ◌++◌, Some}
use Rattle.pr_unit.specs.UnitStates.{UnitState}
use Rattle.pr_roles.specs.declared.entry.Entry.{Entry}
use Rattle.pr_roles.specs.declared.item.Item.TheVariants.{Sent}
use Rattle.pr_roles.specs.declared.step.Step.{Step}
use Rattle.pr_roles.specs.Scenarios.{Scenario}
use Rattle.pr_roles.specs.Worlds.{World, Event, Happens, Run, world_from}
use Rattle.pr_roles.specs.Starts.{IsAllowedStart}
use Rattle.pr_roles.specs.FirstStarts.{first_state}
use Rattle.pr_roles.specs.Schedules.{Schedule, ScheduledRun, schedule_from}

-- One event, the command of h, leads from one world to the other. The entry of h stands last in the history.
pub record IsOneEvent (s : Scenario) (h : ℕ) (e : Entry) (w v : World) : Type 0 where
  pub event : Event
  pub happens : Happens s w event v
  pub sender : e.host ≡ h
  pub added : v.history ≡ w.history ++ Sent e ∷ []

-- These steps led here from the first start, which the scenario allows. The history is that of a run,
-- which leads from that start to the present world.
pub record IsReached (s : Scenario) (steps : List Step) (y : Schedule) : Type 0 where
  pub start : UnitState
  pub first : first_state s ≡ Some start
  pub allowed : IsAllowedStart s start
  pub scheduled : ScheduledRun s (schedule_from s start) steps y
  pub events : List Event
  pub run : Run s (world_from s start) events y.world
