-- Agrees with docs/FORMATS.md, 'Replaying'.
-- Runs in which each turn belongs to a named nexus, or is a reset of the unit, or a fetch on a path.
use Rattle.std.specs.Prelude.{◌≡◌, ℕ, ◌≤◌, Bool, true, false, ◌&&◌, not, if◌then◌else◌, IsTrue, List, [], ◌∷◌, Option, Some, None, map, slice_set}
use Rattle.std.specs.List.{slice_get}
use Rattle.std.specs.Option.{option_map_or}
use Rattle.pr_cdb.specs.declared.command.Command.{Command}
use Rattle.pr_cdb.specs.declared.reply.Reply.{Reply}
use Rattle.pr_cdb.specs.declared.reply.Status.TheVariants.{Busy, TaskFull}
use Rattle.pr_cdb.specs.declared.wire.Request.{Request}
use Rattle.pr_cdb.specs.declared.wire.Request.TheVariants.{Plain}
use Rattle.pr_cdb.specs.Spelling.{spelling}
use Rattle.pr_unit.specs.UnitStates.{UnitState, is_pending, is_any_pending}
use Rattle.pr_unit.specs.Replies.{refused_with}
use Rattle.pr_unit.specs.Steps.{decision}
use Rattle.pr_unit.specs.TakenSteps.{TakenStep, ends_good}
use Rattle.pr_script.specs.Scripts.{Standing, ready, stopped}
use Rattle.pr_roles.specs.declared.role.Clause.{Clause}
use Rattle.pr_roles.specs.declared.how.How.{How}
use Rattle.pr_roles.specs.declared.how.How.TheVariants as how
use Rattle.pr_roles.specs.declared.step.Step.{Step}
use Rattle.pr_roles.specs.declared.step.Step.TheVariants as step
use Rattle.pr_roles.specs.declared.item.Item.{Item}
use Rattle.pr_unit.specs.EarlyReports.{TakenEarly}
use Rattle.pr_roles.specs.Answers.{may_come}
use Rattle.pr_roles.specs.DeclaredRefusals.{is_served}
use Rattle.pr_roles.specs.Permits.{is_permitted}
use Rattle.pr_roles.specs.Scenarios.{Scenario, Task, Scripted, Planned, role, task}
use Rattle.pr_roles.specs.Worlds.{World, control, standing_of, is_guest, after, after_fetch, after_reset, may_reset, world_from}

-- a world, and what is left of each guest's plan
pub record Schedule : Type 0 where
  pub world : World
  pub plans : List (List Command)

abbrev pub plan : Schedule → ℕ → List Command
plan x g = option_map_or (λ p. p) (slice_get x.plans g) []

-- The unit answers a request so: where it may choose, it reports the lowest code. Where it can't report early, it answers as always.
abbrev pub TakenAnswer : How → UnitState → ℕ → Request → Reply → UnitState → Type 0
TakenAnswer how.Plain u h q r v = TakenStep u h q r v
TakenAnswer how.Early u h q r v = TakenEarly u h q r v
TakenAnswer how.Busy u h q r v = (r ≡ refused_with Busy) × (v ≡ u)
TakenAnswer how.Full u h q r v = (r ≡ refused_with TaskFull) × (v ≡ u)

-- the command is answered so
pub record Sends (w : World) (h at : ℕ) (command : Command) (how : How) (v : World) : Type 0 where
  pub reply : Reply
  pub unit : UnitState
  pub answer : TakenAnswer how w.unit h (Plain command) reply unit
  pub world : v ≡ after w h at (spelling command) reply unit

-- What h sends next, on which line of its script, and what is left of its plan then: the command that the script of a host is ready
-- to send, or the first that is left of a guest's plan.
abbrev pub next_by : Option Task → Option Standing → List Command → Option (ℕ × Command × List Command)
next_by None standing planned = None
next_by (Some (Scripted script budget)) None planned = None
next_by (Some (Scripted script budget)) (Some (stopped word)) planned = None
next_by (Some (Scripted script budget)) (Some (ready line c)) planned = Some (line, c, planned)
next_by (Some (Planned commands)) standing [] = None
next_by (Some (Planned commands)) standing (c ∷ left) = Some (0, c, left)

abbrev pub next_of : Scenario → Schedule → ℕ → Option (ℕ × Command × List Command)
next_of s x h = next_by (task s h) (standing_of (control x.world h)) (plan x h)

-- the command would end GOOD, and the role does not permit that
abbrev pub is_held_back : List Clause → UnitState → ℕ → Command → Bool
is_held_back clauses u g c = ends_good (decision u g (Plain c)) (Plain c) && not (is_permitted clauses u.registry g (Plain c))

-- what is refused is not held back
abbrev pub is_passed_over : How → List Clause → UnitState → ℕ → Command → Bool
is_passed_over how clauses u g c = is_served how && is_held_back clauses u g c

-- a guest passes over what is held back
abbrev pub passes_over : Scenario → Schedule → ℕ → How → Command → Bool
passes_over s x h how c = is_guest s h && is_passed_over how (role s h) x.world.unit h c

-- The turn of h, where what it sends is answered so. It sends its next command, or passes it over: then its plan alone is another.
-- Where there is no next command, nothing happens.
pub data TurnAs (s : Scenario) (x : Schedule) (h : ℕ) (how : How) (y : Schedule) : Type 0 where
  sends : (line : ℕ) (c : Command) (left : List Command) → next_of s x h ≡ Some (line, c, left) → passes_over s x h how c ≡ false
      → Sends x.world h line c how y.world → y.plans ≡ slice_set x.plans h left → TurnAs s x h how y
  passes : (line : ℕ) (c : Command) (left : List Command) → next_of s x h ≡ Some (line, c, left) → passes_over s x h how c ≡ true
      → y ≡ record x { plans = slice_set x.plans h left } → TurnAs s x h how y
  rests : next_of s x h ≡ None → y ≡ x → TurnAs s x h how y

-- as is asked for, where that may still come, else by the unit
abbrev pub how_now : Scenario → List Item → ℕ → How → How
how_now s history h wanted = if may_come s history h wanted then wanted else how.Plain

-- the turn of h, answered so where that may still come
abbrev pub Turn : Scenario → Schedule → ℕ → How → Schedule → Type 0
Turn s x h how y = TurnAs s x h (how_now s x.world.history h how) y

-- the unit is reset where that may still come, else nothing happens
abbrev pub ResetTurn : Scenario → Schedule → Schedule → Type 0
ResetTurn s x y = y ≡ (if may_reset s x.world.history then record x { world = after_reset x.world } else x)

-- of the attentions that are pending for h, this is the lowest
pub record IsLowest (u : UnitState) (h code : ℕ) : Type 0 where
  pub pending : IsTrue (is_pending u h code)
  pub least : (other : ℕ) → is_pending u h other ≡ true → code ≤ other

-- somebody else on the path of h is told of the lowest attention that is pending for h: then only the world is another
pub record Fetches (x : Schedule) (h : ℕ) (y : Schedule) : Type 0 where
  pub code : ℕ
  pub lowest : IsLowest x.world.unit h code
  pub schedule : y ≡ record x { world = after_fetch x.world h code }

abbrev pub FetchIf : Bool → Schedule → ℕ → Schedule → Type 0
FetchIf true x h y = Fetches x h y
FetchIf false x h y = y ≡ x

-- so it is told where the path is shared and something is pending, else nothing happens
abbrev pub FetchTurn : Scenario → Schedule → ℕ → Schedule → Type 0
FetchTurn s x h y = FetchIf (s.shared h && is_any_pending x.world.unit h) x h y

abbrev pub Advances : Scenario → Schedule → Step → Schedule → Type 0
Advances s x (step.Of h how) y = Turn s x h how y
Advances s x step.Reset y = ResetTurn s x y
Advances s x (step.Fetched h) y = FetchTurn s x h y

-- these, one after another
abbrev pub ScheduledRun : Scenario → Schedule → List Step → Schedule → Type 0
ScheduledRun s x [] y = y ≡ x
ScheduledRun s x (next ∷ rest) y = (mid : Schedule) × Advances s x next mid × ScheduledRun s mid rest y

abbrev pub plan_of : Task → List Command
plan_of (Scripted script budget) = []
plan_of (Planned commands) = commands

-- each script and plan at its beginning over this unit
abbrev pub schedule_from : Scenario → UnitState → Schedule
schedule_from s unit = record { world = world_from s unit; plans = map (λ n. plan_of n.task) s.nexuses }
