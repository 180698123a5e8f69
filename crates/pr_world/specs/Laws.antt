-- Agrees with docs/MODEL.md, 'Safe scenarios and legal histories'.
-- What holds of every replay and of every schedule: the history of a replay is legal, and of a safe scenario they keep what
-- safety says.
use Rattle.std.specs.Prelude.{◌≡◌, ℕ, ◌≤◌, true, false, IsTrue, List, ◌∷◌, ◌++◌, Some, slice_index}
use Rattle.std.specs.List.{list_any}
use Rattle.pr_cdb.specs.declared.command.Command.{Command}
use Rattle.pr_cdb.specs.declared.wire.Request.TheVariants.{Plain}
use Rattle.pr_cdb.specs.Spelling.{spelling}
use Rattle.pr_unit.specs.UnitStates.{UnitState}
use Rattle.pr_unit.specs.Replies.{is_good}
use Rattle.pr_script.specs.Scripts.{Stmts}
use Rattle.pr_roles.specs.declared.entry.Entry.{Entry}
use Rattle.pr_roles.specs.declared.item.Item.{Item}
use Rattle.pr_roles.specs.declared.item.Item.TheVariants.{Sent}
use Rattle.pr_roles.specs.declared.how.How.{How}
use Rattle.pr_roles.specs.declared.step.Step.{Step}
use Rattle.pr_roles.specs.Answers.{Answers}
use Rattle.pr_roles.specs.Permits.{is_permitted}
use Rattle.pr_roles.specs.Scenarios.{Scenario, Scripted, role, task}
use Rattle.pr_roles.specs.Worlds.{Event, Run, World, commands_by, world_from}
use Rattle.pr_roles.specs.Schedules.{Schedule}
use Rattle.pr_roles.specs.Safety.{IsSafe}
use Rattle.pr_roles.specs.LegalHistories.{IsLegal}
use Rattle.pr_world.specs.declared.replaying.Replayed.{Replayed}
use Rattle.pr_world.specs.Courses.{IsReached}
use Rattle.pr_audit.specs.Ends.{is_trapped_end}
use Rattle.pr_world.specs.Replays.{IsReplayed}
use Rattle.pr_world.specs.Rooms.{room_by}

-- the history of a replay is legal from its start
abbrev pub ReplaysAreLegal : Type 0
ReplaysAreLegal = (s : Scenario) (steps : List Step) (r : Replayed) (x : IsReplayed s steps r) → IsLegal s x.start r.history.items

-- no host of a safe scenario is trapped in a replay
abbrev pub SafeReplaysEndUntrapped : Type 0
SafeReplaysEndUntrapped =
    (s : Scenario) (steps : List Step) (r : Replayed) → IsSafe s → IsReplayed s steps r → list_any is_trapped_end r.ends.items ≡ false

-- in a replay of a safe scenario no host sends more commands than its budget
abbrev pub SafeReplaysKeepBudgets : Type 0
SafeReplaysKeepBudgets =
    (s : Scenario) (steps : List Step) (r : Replayed) → IsSafe s → IsReplayed s steps r
    → (h : ℕ) (script : Stmts) (budget : ℕ) → task s h ≡ Some (Scripted script budget) → slice_index r.counts.items h ≤ budget

-- The history before this one have led to some state; in it the entry was answered, and where the answer is GOOD the
-- sender's role permits the command in that very state.
pub record IsPermittedAfter (s : Scenario) (start : UnitState) (before : List Item) (e : Entry) : Type 0 where
  pub events : List Event
  pub world : World
  pub run : Run s (world_from s start) events world
  pub history : world.history ≡ before
  pub command : Command
  pub wire : e.wire ≡ spelling command
  pub after : UnitState
  pub how : How
  pub answer : Answers how world.unit e.host (Plain command) e.reply after
  pub permitted : is_good e.reply ≡ true → IsTrue (is_permitted (role s e.host) world.unit.registry e.host (Plain command))

-- in a replay of a safe scenario each entry of a host that ends GOOD is one that its role permits
abbrev pub SafeReplaysKeepRoles : Type 0
SafeReplaysKeepRoles =
    (s : Scenario) (steps : List Step) (r : Replayed) → IsSafe s → (x : IsReplayed s steps r)
    → (before : List Item) (e : Entry) (rest : List Item) → r.history.items ≡ before ++ Sent e ∷ rest
    → (script : Stmts) (budget : ℕ) → task s e.host ≡ Some (Scripted script budget) → IsPermittedAfter s x.start before e

-- where turns and resets led in a safe scenario, no host has sent more than its budget, and no guest more than its plan has
abbrev pub SafeSchedulesKeepToRooms : Type 0
SafeSchedulesKeepToRooms =
    (s : Scenario) (steps : List Step) (y : Schedule) → IsSafe s → IsReached s steps y → (h : ℕ) → commands_by y.world.history h ≤ room_by (task s h)
