-- What one nexus does in its turn.
use Rattle.std.specs.Prelude.{◌≡◌, ℕ, Bool, true, false, if◌then◌else◌, List, [], ◌∷◌, Option, Some, None}
use Rattle.pr_cdb.specs.declared.command.Command.{Command}
use Rattle.pr_unit.specs.UnitStates.{UnitState}
use Rattle.pr_script.specs.Scripts.{Standing, ready, stopped}
use Rattle.pr_roles.specs.declared.role.Clause.{Clause}
use Rattle.pr_roles.specs.declared.role.Role.{Role}
use Rattle.pr_roles.specs.declared.entry.Entry.{Entry}
use Rattle.pr_roles.specs.declared.how.How.{How}
use Rattle.pr_roles.specs.Scenarios.{Scenario, role}
use Rattle.pr_roles.specs.Worlds.{Control, Going, Trapped, Free, control, standing_of, control_after}
use Rattle.pr_roles.specs.Schedules.{how_now, Schedule, plan, is_passed_over}
use Rattle.pr_world.specs.declared.act.Act.{Act}
use Rattle.pr_world.specs.declared.act.Act.TheVariants as act
use Rattle.pr_world.specs.declared.participant.Participant.{Participant}
use Rattle.pr_world.specs.inside.Participations.{Participation, participation, participation_of, IsSent}

-- ---- which of the things that there are to do

-- A command goes to the unit; the script is stopped with a word, or trapped; the plan is done; or its next command is
-- held back, and passed over.
pub data Doing : Type 0 where
  sends : Doing
  stops : List ℕ → Doing
  is_trapped : Doing
  is_done : Doing
  passes : Doing

abbrev pub doing_of : Act → Doing
doing_of (act.Sent e) = sends
doing_of (act.Stopped word) = stops word.bytes
doing_of act.Trapped = is_trapped
doing_of act.Finished = is_done
doing_of act.Held = passes

-- of a script that stands so
abbrev pub host_does : Option Standing → Doing
host_does None = is_trapped
host_does (Some (ready line c)) = sends
host_does (Some (stopped word)) = stops word

-- of a guest with this role, and this left of its plan
abbrev pub guest_does : How → List Clause → UnitState → ℕ → List Command → Doing
guest_does how clauses u g [] = is_done
guest_does how clauses u g (c ∷ cs) = if is_passed_over how clauses u g c then passes else sends

abbrev pub does_as : How → Control → List Clause → UnitState → ℕ → List Command → Doing
does_as how (Going l) clauses u h planned = host_does (standing_of (Going l))
does_as how (Trapped line) clauses u h planned = is_trapped
does_as how Free clauses u h planned = guest_does how clauses u h planned

-- of a participant with this role, as number h
abbrev pub participant_does : How → Role → UnitState → ℕ → Participant → Doing
participant_does how role u h x = does_as how (participation_of x).control role.clauses.items u h (participation_of x).plan

-- what h does, if this is its turn, and it is to be answered so
abbrev pub does : Scenario → Schedule → ℕ → How → Doing
does s x h how = does_as (how_now s x.world.history h how) (control x.world h) (role s h) x.world.unit h (plan x h)

-- ---- and what comes of it

-- the entry that was sent, if one was
abbrev pub entry_in : Act → Option Entry
entry_in (act.Sent e) = Some e
entry_in (act.Stopped word) = None
entry_in act.Trapped = None
entry_in act.Finished = None
entry_in act.Held = None

-- the unit stays as it is, and so does who acts
abbrev pub Rests : UnitState → Participation → Participation → UnitState → Type 0
Rests u x y v = (y ≡ x) × (v ≡ u)

-- a host sends its command where it is ready, and takes the reply
abbrev pub HostActs : How → Option Standing → ℕ → Participation → UnitState → Option Entry → Participation → UnitState → Type 0
HostActs how (Some (ready line c)) h x u (Some e) y v = IsSent how u h c e v × (y ≡ participation (control_after line x.control e.reply) x.plan)
HostActs how (Some (ready line c)) h x u None y v = ⊥
HostActs how (Some (stopped word)) h x u (Some e) y v = ⊥
HostActs how (Some (stopped word)) h x u None y v = Rests u x y v
HostActs how None h x u (Some e) y v = ⊥
HostActs how None h x u None y v = Rests u x y v

-- a guest sends its next command, unless that is held back
abbrev pub SendsOr : How → Bool → ℕ → UnitState → Command → Option Entry → UnitState → Type 0
SendsOr how true h u c (Some e) v = ⊥
SendsOr how true h u c None v = v ≡ u
SendsOr how false h u c (Some e) v = IsSent how u h c e v
SendsOr how false h u c None v = ⊥

abbrev pub GuestActs : How → List Clause → ℕ → List Command → UnitState → Option Entry → Participation → UnitState → Type 0
GuestActs how clauses h [] u (Some e) y v = ⊥
GuestActs how clauses h [] u None y v = Rests u (participation Free []) y v
GuestActs how clauses h (c ∷ cs) u e y v = SendsOr how (is_passed_over how clauses u h c) h u c e v × (y ≡ participation Free cs)

abbrev pub ActsAs : How → Control → List Clause → ℕ → Participation → UnitState → Option Entry → Participation → UnitState → Type 0
ActsAs how (Going l) clauses h x u e y v = HostActs how (standing_of (Going l)) h x u e y v
ActsAs how (Trapped line) clauses h x u e y v = HostActs how None h x u e y v
ActsAs how Free clauses h x u e y v = GuestActs how clauses h x.plan u e y v

abbrev pub Acts : How → List Clause → ℕ → Participation → UnitState → Option Entry → Participation → UnitState → Type 0
Acts how clauses h x u e y v = ActsAs how x.control clauses h x u e y v

-- the same of a participant with this role, which becomes the other
abbrev pub ParticipantActs : How → Role → ℕ → Act → Participant → UnitState → Participant → UnitState → Type 0
ParticipantActs how role h did x u y v = Acts how role.clauses.items h (participation_of x) u (entry_in did) (participation_of y) v
