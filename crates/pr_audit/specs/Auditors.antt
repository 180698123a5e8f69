-- Agrees with docs/FORMATS.md, 'Auditing'.
-- Histories that are followed item by item: which worlds they may have led to, and what may come next.
use Rattle.std.specs.Prelude.{◌≡◌, ℕ, Bool, true, false, List, [], ◌∷◌, ◌++◌, Option, Some, None, length, map}
use Rattle.pr_cdb.specs.declared.command.Command.{Command}
use Rattle.pr_unit.specs.SharedPaths.{IsBelow}
use Rattle.pr_unit.specs.UnitStates.{UnitState}
use Rattle.pr_script.specs.Scripts.{Standing, ready, stopped}
use Rattle.pr_cdb.specs.Spelling.{spelling}
use Rattle.pr_roles.specs.declared.entry.Entry.{Entry}
use Rattle.pr_roles.specs.declared.item.Item.{Item}
use Rattle.pr_roles.specs.declared.parts.Parts.{Parts}
use Rattle.pr_roles.specs.Scenarios.{Scenario, Task, Scripted, Planned, scenario_of}
use Rattle.pr_roles.specs.Worlds.{World, Event, Happens, Run, Control, Going, Trapped, Free, standing_of, control_after, world_from}
use Rattle.pr_audit.specs.declared.auditor.Auditor.{Auditor}
use Rattle.pr_audit.specs.declared.sender.Sender.{Sender}
use Rattle.pr_audit.specs.declared.sender.Sender.TheVariants as sender

abbrev pub control_by : Sender → Control
control_by (sender.Host l) = Going l
control_by (sender.Trapped line) = Trapped line
control_by sender.Guest = Free

-- the world of an audit after this history: of those that may be, the one in which most is pending
abbrev pub world_at : Auditor → List Item → World
world_at a history = record { unit = a.unit; controls = map control_by a.senders.items; history = history }

-- some event adds the item
pub record Adds (s : Scenario) (w : World) (i : Item) (v : World) : Type 0 where
  pub event : Event
  pub happens : Happens s w event v
  pub added : v.history ≡ w.history ++ i ∷ []

-- somebody else is told of attentions, and then some event adds the item
pub record AddsAfterFetches (s : Scenario) (w : World) (i : Item) (v : World) : Type 0 where
  pub events : List Event
  pub from : UnitState
  pub fetches : Run s w events (record w { unit = from })
  pub registry : from.registry ≡ w.unit.registry
  pub adds : Adds s (record w { unit = from }) i v

-- a world for which w stands: on shared paths less may be pending
pub record IsWorldOf (s : Scenario) (w v : World) : Type 0 where
  pub below : IsBelow s.shared w.unit v.unit
  pub controls : v.controls ≡ w.controls
  pub history : v.history ≡ w.history

-- True: fetches and some event add it and lead here, and this stands for whatever an event leads to that adds it to a world for
-- which w stands. False: no event adds it to any of them.
abbrev pub IsTried : Scenario → World → Item → Bool → World → Type 0
IsTried s w i true v = AddsAfterFetches s w i v × ((x y : World) → IsWorldOf s w x → Adds s x i y → IsWorldOf s v y)
IsTried s w i false v = (x y : World) → IsWorldOf s w x → Adds s x i y → ⊥

abbrev pub is_free : Control → Bool
is_free (Going l) = false
is_free (Trapped line) = false
is_free Free = true

abbrev pub is_planned : Task → Bool
is_planned (Scripted script budget) = false
is_planned (Planned commands) = true

-- there is one nexus for each that the scenario declares, and just the guests send what they like
pub record ActFor (s : Scenario) (w : World) : Type 0 where
  pub hosts : w.unit.registry.hosts ≡ length s.nexuses
  pub tasks : map is_free w.controls ≡ map (λ n. is_planned n.task) s.nexuses

-- ---- of a scenario as it is kept

-- the auditor follows a history of the scenario
abbrev pub IsAuditorOf : Parts → Auditor → Type 0
IsAuditorOf p a = ActFor (scenario_of p) (world_at a [])

-- it stands at the beginning of a history from this state
abbrev pub StartsAt : Parts → UnitState → Auditor → Type 0
StartsAt p u a = world_at a [] ≡ world_from (scenario_of p) u

-- the item was tried after these, with this answer, which led from one auditor to the other
abbrev pub IsTriedAfter : Parts → List Item → Item → Bool → Auditor → Auditor → Type 0
IsTriedAfter p before i answer a b = IsTried (scenario_of p) (world_at a before) i answer (world_at b (before ++ i ∷ []))

-- One that acts so, once it has sent the entry whatever was expected: a script that is ready to send just these bytes takes the
-- reply. Any other one acts as before.
abbrev pub IsPast : Entry → Control → Control → Type 0
IsPast e k after =
    ((line : ℕ) (command : Command) → standing_of k ≡ Some (ready line command) → e.wire ≡ spelling command → after ≡ control_after line k e.reply)
    × (((line : ℕ) (command : Command) → standing_of k ≡ Some (ready line command) → e.wire ≡ spelling command → ⊥) → after ≡ k)

-- the line at which a script is ready to send, and its command there; None where it is stopped
abbrev pub send_by : Option Standing → Option (ℕ × Command)
send_by None = None
send_by (Some (ready line command)) = Some (line, command)
send_by (Some (stopped word)) = None

-- the same of one that acts so: nothing where a script is trapped, nor of a guest
abbrev pub send_of : Control → Option (ℕ × Command)
send_of k = send_by (standing_of k)
