-- Agrees with docs/MODEL.md, 'Worlds, events and runs'.
-- A logical unit with the scripts that drive it, and what may happen to them. One event is one command of one
-- nexus: it is executed and answered, and a host's script takes the reply. Or it is a reset of the unit, or somebody else
-- is told of what is pending for a host.
use Rattle.std.specs.Prelude.{◌≡◌, ℕ, ◌<◌, ◌≤◌, ◌==◌, Bool, true, false, nat_lt, IsTrue, List, [], ◌∷◌, ◌++◌, length, Option, Some, None, map, slice_set, Ok}
use Rattle.std.specs.List.{slice_get, count_by}
use Rattle.std.specs.Option.{option_map_or}
use Rattle.pr_cdb.specs.declared.codes.TheConstants.{MOST_CDB_LENGTH, PARAMETER_LIST_LENGTH}
use Rattle.pr_cdb.specs.declared.command.Command.{Command}
use Rattle.pr_cdb.specs.declared.reply.Reply.{Reply}
use Rattle.pr_cdb.specs.declared.wire.Wire.{Wire}
use Rattle.pr_cdb.specs.declared.wire.Request.{Request}
use Rattle.pr_cdb.specs.declared.wire.Request.TheVariants.{Plain}
use Rattle.pr_cdb.specs.Requests.{request_of_wire, AreBytes}
use Rattle.pr_cdb.specs.Spelling.{spelling}
use Rattle.pr_unit.specs.UnitStates.{UnitState, is_pending, after_report, reset}
use Rattle.pr_unit.specs.Replies.{is_good}
use Rattle.pr_script.specs.Scripts.{Configuration, Standing, ready, standing_of_items, first_configuration}
use Rattle.pr_script.specs.Takes.{take}
use Rattle.pr_roles.specs.declared.entry.Entry.{Entry}
use Rattle.pr_roles.specs.declared.how.How.{How}
use Rattle.pr_roles.specs.declared.item.Item.{Item}
use Rattle.pr_roles.specs.declared.item.Item.TheVariants.{Sent, Reset}
use Rattle.pr_roles.specs.Permits.{is_permitted}
use Rattle.pr_roles.specs.Answers.{Answers, may_come}
use Rattle.pr_roles.specs.Scenarios.{Scenario, Task, Scripted, Planned, role, task}

-- What a nexus does: a host's script goes on, or it met a reply without an arm at the send of this
-- line; a guest sends what it likes.
pub data Control : Type 0 where
  Going : Configuration → Control
  Trapped : ℕ → Control
  Free : Control

-- what comes next of a script
abbrev pub standing_of : Control → Option Standing
standing_of (Going l) = standing_of_items l
standing_of (Trapped line) = None
standing_of Free = None

abbrev pub going_or_trapped : ℕ → Option Configuration → Control
going_or_trapped line None = Trapped line
going_or_trapped line (Some l) = Going l

-- after a reply to the send of this line
abbrev pub control_after : ℕ → Control → Reply → Control
control_after line (Going l) r = going_or_trapped line (take l r)
control_after line (Trapped at) r = Trapped at
control_after line Free r = Free

pub record World : Type 0 where
  pub unit : UnitState
  pub controls : List Control
  pub history : List Item

-- one that is not there does nothing
abbrev pub control : World → ℕ → Control
control w h = option_map_or (λ c. c) (slice_get w.controls h) Free

abbrev pub entry_of : ℕ → Wire → Reply → Entry
entry_of h wire r = record { host = h; wire = wire; reply = r }

-- the world once h has sent these bytes: the unit's state is another, the reply is taken, and the entry stands
-- last in the history
abbrev pub after : World → ℕ → ℕ → Wire → Reply → UnitState → World
after w h line wire r unit = record {
  unit = unit;
  controls = slice_set w.controls h (control_after line (control w h) r);
  history = w.history ++ Sent (entry_of h wire r) ∷ [];
}

-- the world once the unit was reset, which stands last in the history
abbrev pub after_reset : World → World
after_reset w = record w { unit = reset w.unit; history = w.history ++ Reset ∷ [] }

-- the world once somebody else on the path of h was told of this attention: no script hears of that, and it stands in no history
abbrev pub after_fetch : World → ℕ → ℕ → World
after_fetch w h code = record w { unit = after_report w.unit h code }

-- a host's script sends, or a guest sends these bytes, and is answered so; or the unit is reset; or somebody else on the path of
-- a nexus is told of an attention that is pending for that nexus
pub data Event : Type 0 where
  Host : ℕ → How → Event
  Guest : ℕ → Wire → How → Event
  UnitReset : Event
  Fetched : ℕ → ℕ → Event

-- The command that host h is ready to send is answered so, as often as the scenario has it, and its script takes the reply.
pub record HostSends (s : Scenario) (w : World) (h : ℕ) (how : How) (v : World) : Type 0 where
  pub room : IsTrue (may_come s w.history h how)
  pub line : ℕ
  pub command : Command
  pub ready : standing_of (control w h) ≡ Some (ready line command)
  pub reply : Reply
  pub unit : UnitState
  pub answer : Answers how w.unit h (Plain command) reply unit
  pub world : v ≡ after w h line (spelling command) reply unit

abbrev pub is_guest_task : Option Task → Bool
is_guest_task None = false
is_guest_task (Some (Scripted script budget)) = false
is_guest_task (Some (Planned commands)) = true

abbrev pub is_guest : Scenario → ℕ → Bool
is_guest s g = is_guest_task (task s g)

-- Any bytes that are a request may come from a guest at any time, as many as a wire holds; where they end GOOD,
-- its role permits that.
pub record GuestSends (s : Scenario) (w : World) (g : ℕ) (wire : Wire) (how : How) (v : World) : Type 0 where
  pub room : IsTrue (may_come s w.history g how)
  pub guest : IsTrue (is_guest s g)
  pub bytes : AreBytes wire.cdb.items × AreBytes wire.params.items
  pub lengths : (length wire.cdb.items ≤ MOST_CDB_LENGTH) × (length wire.params.items ≤ PARAMETER_LIST_LENGTH)
  pub request : Request
  pub read : request_of_wire wire ≡ Ok request
  pub reply : Reply
  pub unit : UnitState
  pub answer : Answers how w.unit g request reply unit
  pub permitted : is_good reply ≡ true → IsTrue (is_permitted (role s g) w.unit.registry g request)
  pub world : v ≡ after w g 0 wire reply unit

abbrev pub is_reset : Item → Bool
is_reset (Sent e) = false
is_reset Reset = true

-- how often the unit was reset, and whether it may be reset once more
abbrev pub resets_in : List Item → ℕ
resets_in history = count_by is_reset history

abbrev pub may_reset : Scenario → List Item → Bool
may_reset s history = nat_lt (resets_in history) s.resets

-- A reset may come at any time, as often as the scenario has it.
pub record IsReset (s : Scenario) (w v : World) : Type 0 where
  pub room : IsTrue (may_reset s w.history)
  pub world : v ≡ after_reset w

-- Any attention of a nexus whose path is shared may be fetched at any time, as often as one is pending.
pub record IsFetched (s : Scenario) (w : World) (h code : ℕ) (v : World) : Type 0 where
  pub there : h < length s.nexuses
  pub shares : IsTrue (s.shared h)
  pub pending : IsTrue (is_pending w.unit h code)
  pub world : v ≡ after_fetch w h code

abbrev pub Happens : Scenario → World → Event → World → Type 0
Happens s w (Host h how) v = HostSends s w h how v
Happens s w (Guest g wire how) v = GuestSends s w g wire how v
Happens s w UnitReset v = IsReset s w v
Happens s w (Fetched h code) v = IsFetched s w h code v

-- these events, one after another, lead from w to v
abbrev pub Run : Scenario → World → List Event → World → Type 0
Run s w [] v = v ≡ w
Run s w (e ∷ es) v = (mid : World) × Happens s w e mid × Run s mid es v

abbrev pub control_of : Task → Control
control_of (Scripted script budget) = Going (first_configuration script)
control_of (Planned commands) = Free

-- each script at its beginning over this unit, and no command sent
abbrev pub world_from : Scenario → UnitState → World
world_from s unit = record { unit = unit; controls = map (λ n. control_of n.task) s.nexuses; history = [] }

-- a command of h
abbrev pub is_sent_by : ℕ → Item → Bool
is_sent_by h (Sent e) = e.host == h
is_sent_by h Reset = false

-- how many commands of h reached the unit
abbrev pub commands_by : List Item → ℕ → ℕ
commands_by history h = count_by (is_sent_by h) history

abbrev pub is_trapped : Control → Bool
is_trapped (Going l) = false
is_trapped (Trapped line) = true
is_trapped Free = false
