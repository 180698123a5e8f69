-- Agrees with docs/FORMATS.md, 'Replaying'.
-- What a replay comes to.
use Rattle.std.specs.Prelude.{◌≡◌, ℕ, ◌<◌, List, map, Some}
use Rattle.std.specs.List.{list_any}
use Rattle.pr_unit.specs.UnitStates.{UnitState}
use Rattle.pr_roles.specs.declared.how.How.TheVariants as how
use Rattle.pr_roles.specs.declared.step.Step.{Step}
use Rattle.pr_roles.specs.declared.step.Step.TheVariants as step
use Rattle.pr_roles.specs.Scenarios.{Scenario}
use Rattle.pr_roles.specs.Starts.{IsAllowedStart}
use Rattle.pr_roles.specs.FirstStarts.{first_state}
use Rattle.pr_roles.specs.Worlds.{Event, Run, is_trapped, world_from}
use Rattle.pr_roles.specs.Schedules.{Schedule, ScheduledRun, schedule_from}
use Rattle.pr_world.specs.declared.replaying.Replayed.{Replayed}
use Rattle.pr_audit.specs.Ends.{counts_in, endings, endings_of, is_trapped_end}

-- whoever's turn or path it is, it is one of so many nexuses
abbrev pub IsThere : ℕ → Step → Type 0
IsThere n (step.Of host how) = host < n
IsThere n step.Reset = Unit {0}
IsThere n (step.Fetched host) = host < n

-- turns of these nexuses, one after another, in which the unit answers
abbrev pub plain_steps : List ℕ → List Step
plain_steps hosts = map (λ host. step.Of host how.Plain) hosts

-- what a schedule holds at last: the history, the unit, the end of each nexus, and how many of its
-- commands reached the unit. Some end is a trapped one just where some host is trapped.
pub record IsEndOf (y : Schedule) (r : Replayed) : Type 0 where
  pub history : r.history.items ≡ y.world.history
  pub unit : r.unit ≡ y.world.unit
  pub ends : endings_of r.ends.items ≡ endings y.world.controls y.plans
  pub counts : r.counts.items ≡ counts_in y
  pub trapped : list_any is_trapped_end r.ends.items ≡ list_any is_trapped y.world.controls

-- The scheduled run of these steps from the first start, which the scenario allows, came to this. A run of the
-- scenario leads from that start to the same world, so that what holds of every run holds of it.
pub record IsReplayed (s : Scenario) (steps : List Step) (r : Replayed) : Type 0 where
  pub start : UnitState
  pub first : first_state s ≡ Some start
  pub allowed : IsAllowedStart s start
  pub last : Schedule
  pub run : ScheduledRun s (schedule_from s start) steps last
  pub outcome : IsEndOf last r
  pub events : List Event
  pub reached : Run s (world_from s start) events last.world
