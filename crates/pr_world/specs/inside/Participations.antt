-- What is left of each nexus at work, and one event of it.
use Rattle.std.specs.Prelude.{◌≡◌, ℕ, List, [], ◌∷◌, Option, Some, None, length, map}
use Rattle.pr_cdb.specs.declared.command.Command.{Command}
use Rattle.pr_cdb.specs.declared.wire.Request.TheVariants.{Plain}
use Rattle.pr_cdb.specs.Requests.{plain_request, request_of_wire}
use Rattle.pr_cdb.specs.Spelling.{spelling}
use Rattle.pr_unit.specs.UnitStates.{UnitState}
use Rattle.pr_roles.specs.declared.entry.Entry.{Entry}
use Rattle.pr_roles.specs.declared.item.Item.{Item}
use Rattle.pr_roles.specs.declared.item.Item.TheVariants.{Sent}
use Rattle.pr_roles.specs.declared.how.How.{How}
use Rattle.pr_roles.specs.declared.parts.Nexus.{Nexus}
use Rattle.pr_roles.specs.declared.parts.Parts.{Parts}
use Rattle.pr_roles.specs.Scenarios.{Scenario, Task, scenario_of, task_of}
use Rattle.pr_roles.specs.Worlds.{World, Control, Going, Trapped, Free, control_of, entry_of}
use Rattle.pr_roles.specs.Schedules.{TakenAnswer, Schedule, plan_of}
use Rattle.pr_world.specs.declared.course.Course.{Course}
use Rattle.pr_world.specs.declared.participant.Participant.{Participant}
use Rattle.pr_world.specs.declared.participant.Participant.TheVariants as participant
use Rattle.pr_audit.specs.Auditors.{is_free, is_planned}
use Rattle.pr_world.specs.Courses.{IsOneEvent}
use Rattle.pr_audit.specs.Ends.{Ending, ending}

-- what one nexus does, and what is left of its plan
pub record Participation : Type 0 where
  pub control : Control
  pub plan : List Command

abbrev pub participation : Control → List Command → Participation
participation k plan = record { control = k; plan = plan }

abbrev pub participation_of : Participant → Participation
participation_of (participant.Host l) = participation (Going l) []
participation_of (participant.Trapped line) = participation (Trapped line) []
participation_of (participant.Guest plan) = participation Free plan.commands.items

-- at the beginning
abbrev pub participation_from : Task → Participation
participation_from task = participation (control_of task) (plan_of task)

-- the nexus at its beginning
abbrev pub IsFirst : Nexus → Participant → Type 0
IsFirst n x = participation_of x ≡ participation_from (task_of n.task)

-- each nexus of the scenario at its beginning
abbrev pub AreFirst : Parts → List Participant → Type 0
AreFirst p xs = map participation_of xs ≡ map (λ n. participation_from n.task) (scenario_of p).nexuses

-- how it stands
abbrev pub ending_at : Participant → Option Ending
ending_at x = ending (participation_of x).control (participation_of x).plan

abbrev pub schedule_by : UnitState → List Participation → List Item → Schedule
schedule_by unit participations history = record {
  world = record { unit = unit; controls = map (λ s. s.control) participations; history = history };
  plans = map (λ s. s.plan) participations;
}

-- The command of h was spelled, and answered so; what was spelled is read as the command.
pub record IsSent (how : How) (u : UnitState) (h : ℕ) (c : Command) (e : Entry) (v : UnitState) : Type 0 where
  pub taken : TakenAnswer how u h (Plain c) e.reply v
  pub entry : e ≡ entry_of h (spelling c) e.reply
  pub read : request_of_wire e.wire ≡ plain_request c

-- what such an answer adds to the history
abbrev pub items_of : Option Entry → List Item
items_of None = []
items_of (Some e) = Sent e ∷ []

-- where an entry was sent, that is one event; else the world is as it was
abbrev pub HappensBy : Scenario → ℕ → Option Entry → World → World → Type 0
HappensBy s h None w v = v ≡ w
HappensBy s h (Some e) w v = IsOneEvent s h e w v

-- there is one nexus for each that the scenario declares, and just the guests have plans
pub record StandsFor (s : Scenario) (u : UnitState) (participations : List Participation) : Type 0 where
  pub hosts : u.registry.hosts ≡ length s.nexuses
  pub tasks : map (λ x. is_free x.control) participations ≡ map (λ n. is_planned n.task) s.nexuses

abbrev pub schedule_of : Course → Schedule
schedule_of c = schedule_by c.unit (map participation_of c.participants.items) c.history.items
