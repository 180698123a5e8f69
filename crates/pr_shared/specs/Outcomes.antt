-- Agrees with docs/FORMATS.md, 'Running'.
-- What a run over threads comes to, and when a world is closed.
use Rattle.std.specs.Prelude.{◌≡◌, ℕ, ◌<◌, ◌≤◌, ◌⊎◌, ◌==◌, Bool, true, false, IsTrue, List, [], Option, Some, None, length, map}
use Rattle.std.specs.List.{list_all, range_with_len}
use Rattle.pr_unit.specs.UnitStates.{UnitState}
use Rattle.pr_roles.specs.declared.step.Step.{Step}
use Rattle.pr_roles.specs.declared.entry.Entry.{Entry}
use Rattle.pr_roles.specs.declared.item.Item.{Item}
use Rattle.pr_roles.specs.Scenarios.{Scenario, scenario_of}
use Rattle.pr_roles.specs.LegalHistories.{IsLegal}
use Rattle.pr_roles.specs.Schedules.{Schedule}
use Rattle.pr_roles.specs.FirstStarts.{first_state}
use Rattle.pr_world.specs.Courses.{IsReached}
use Rattle.pr_audit.specs.Ends.{Ending, stops, waits, traps, leaves, ending_in, endings_of}
use Rattle.pr_world.specs.Progress.{Progress}
use Rattle.pr_shared.specs.declared.outcome.Differs.{Differs}
use Rattle.pr_shared.specs.declared.outcome.Outcome.{Outcome}
use Rattle.pr_shared.specs.Histories.{entries_by, entries_of, lists_of}

-- a script is stopped, or nothing is left of a plan
abbrev pub is_over : Option Ending → Bool
is_over None = false
is_over (Some (stops word)) = true
is_over (Some (waits line)) = false
is_over (Some (traps line)) = false
is_over (Some (leaves planned)) = planned == 0

-- how each nexus of the scenario stands, by its number
abbrev pub endings_in : Scenario → Schedule → List (Option Ending)
endings_in s y = map (ending_in y) (range_with_len 0 (length s.nexuses))

-- every script is stopped, and every plan is done
abbrev pub AreOver : Scenario → Schedule → Type 0
AreOver s y = IsTrue (list_all is_over (endings_in s y))

-- Turns led from the first start, by a legal run, to just this history, this unit and these ends, and all are over.
pub record IsOutcome (s : Scenario) (o : Outcome) : Type 0 where
  pub steps : List Step
  pub last : Schedule
  pub reached : IsReached s steps last
  pub history : o.history.items ≡ last.world.history
  pub unit : o.unit ≡ last.world.unit
  pub ends : endings_of o.ends.items ≡ endings_in s last
  pub over : AreOver s last

-- The world is one of this scenario, each of these lists is what its nexus sent, and all are over.
pub record IsClosed (s : Scenario) (mine : List (List Entry)) (w : Progress) : Type 0 where
  pub scenario : scenario_of w.scenario ≡ s
  pub own : entries_by (length mine) w.schedule.world.history ≡ mine
  pub over : AreOver (scenario_of w.scenario) w.schedule

-- the world that is handed out is not closed with the lists beside it
abbrev pub DiffersFrom : Scenario → Differs → Type 0
DiffersFrom s d = ¬ IsClosed s (lists_of d.mine.items) d.world

-- A history that is legal from the first start, to which only those before this one have sent.
pub record IsHalted (s : Scenario) (host : ℕ) (history : List Item) : Type 0 where
  pub start : UnitState
  pub first : first_state s ≡ Some start
  pub legal : IsLegal s start history
  pub none : (h : ℕ) → host ≤ h → entries_of history h ≡ []

-- The world is one of this scenario, each of these lists is what its nexus sent, and those after them have sent nothing.
pub record IsHaltedWith (s : Scenario) (mine : List (List Entry)) (w : Progress) : Type 0 where
  pub scenario : scenario_of w.scenario ≡ s
  pub own : entries_by (length mine) w.schedule.world.history ≡ mine
  pub none : (h : ℕ) → length mine ≤ h → entries_of w.schedule.world.history h ≡ []

-- the world that is handed out is not halted with the lists beside it
abbrev pub IsNotHaltedBy : Scenario → Differs → Type 0
IsNotHaltedBy s d = ¬ IsHaltedWith s (lists_of d.mine.items) d.world

-- What a run compared in vain: with the lists of all nexuses the world is not closed, or with those of some, since a thread could
-- not be started, it is not halted.
abbrev pub IsCause : Scenario → Differs → Type 0
IsCause s d =
    ((length d.mine.items ≡ length s.nexuses) × DiffersFrom s d) ⊎ ((length d.mine.items < length s.nexuses) × IsNotHaltedBy s d)
