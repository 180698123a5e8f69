-- What is found of each way in which a command can end once nothing is pending for its sender, before the
-- attentions of the owner are looked at.
use Rattle.std.specs.Prelude.{◌≡◌, ◌⊎◌, ℕ, zero, suc, ◌+◌, ◌<◌, ◌≤◌, length, Bool, true, false, ◌||◌, List, Option, Some, None, is_some}
use Rattle.std.specs.List.{All, Any, slice_get}
use Rattle.std.specs.Option.{option_map_or}
use Rattle.pr_cdb.specs.declared.command.Command.{Command}
use Rattle.pr_unit.specs.UnitStates.{UnitState, effect}
use Rattle.pr_unit.specs.Conduct.{command_conflicts, command_fault}
use Rattle.pr_unit.specs.Demands.{is_not_admitted}
use Rattle.pr_unit.specs.Replies.{good, data_of}
use Rattle.pr_script.specs.declared.script.Test.{Test}
use Rattle.pr_script.specs.Grammar.{is_read_keys, is_read_reservation}
use Rattle.pr_sets.specs.BitSets.{has}
use Rattle.pr_sets.specs.Wides.{has_wide}
use Rattle.pr_views.specs.declared.possibilities.Possibilities.{Possibilities}
use Rattle.pr_roles.specs.Keys.{key_at}
use Rattle.pr_views.specs.Possibilities.{Scope, Item, Registration, Reservation, Attentions, IsSo, number_of}
use Rattle.pr_views.specs.Views.{View, Shows, Fits}
use Rattle.pr_views.specs.Portions.{has_at, view_in}
use Rattle.pr_regions.specs.Readings.{first_test}
use Rattle.pr_sets.specs.declared.bit_set.BitSet.{BitSet}
use Rattle.pr_regions.specs.declared.region.Branch.{Branch}
use Rattle.pr_regions.specs.declared.region.Reading.{Reading}
use Rattle.pr_regions.specs.declared.region.Region.{Region}
use Rattle.pr_regions.specs.declared.region.Transition.{Transition}
use Rattle.pr_regions.specs.declared.region.Ending.TheVariants as ending
use Rattle.pr_regions.specs.Transitions.{Does, never, tells_nobody}
use Rattle.pr_registry.specs.Registrations.{State}
use Rattle.pr_script.specs.declared.limits.TheConstants.{MOST_ARMS}
use Rattle.pr_regions.specs.Purposes.{Purpose, purpose_of}
use Rattle.pr_regions.specs.declared.purpose.Standing.{Standing}
use Rattle.pr_regions.specs.Regions.{Ends, IsInRegion, IsUntestedOrRegistered, standing_of}
use Rattle.pr_regions.specs.declared.place.Place.{Place}
use Rattle.pr_domain.specs.declared.tally.Tally.{Tally}
use Rattle.pr_regions.specs.Gathering.{IsPlace, IsUniform, IsProper, IsAt}

-- it is so of the registrations and the reservation
abbrev pub IsRegistered : Scope → UnitState → Item → Type 0
IsRegistered s u (Registration g r) = IsSo s u (Registration g r)
IsRegistered s u (Reservation x) = IsSo s u (Reservation x)
IsRegistered s u (Attentions q) = ⊥

-- the possibilities have this of the registrations and the reservation
abbrev pub has_part : Possibilities → Item → Bool
has_part p (Registration g r) = has_at p.registrations g r
has_part p (Reservation x) = has_wide p.reservations x
has_part p (Attentions q) = false

abbrev pub has_tallied : Tally → ℕ → Item → Bool
has_tallied t way i = option_map_or (λ p. has_part p i) (slice_get t.ways way) false

-- the tally has nothing
abbrev pub IsNothing : Tally → Type 0
IsNothing t = (way : ℕ) (i : Item) → has_tallied t way i ≡ false

-- it has these registrations and reservations of the way
pub record HasFound (t : Tally) (way hosts : ℕ) (found : Possibilities) : Type 0 where
  pub registrations : (g r : ℕ) → g < hosts → has_at found.registrations g r ≡ true → has_tallied t way (Registration g r) ≡ true
  pub reservations : (x : ℕ) → has_wide found.reservations x ≡ true → has_tallied t way (Reservation x) ≡ true

-- GOOD is told apart by the arm that takes the data, if one does
abbrev pub arm_of : ℕ → Option ℕ
arm_of zero = None
arm_of (suc n) = Some n

abbrev pub way_of : Option ℕ → ℕ
way_of None = zero
way_of (Some n) = suc n

-- What is so after each way to end: 0, a conflict; 1, anything but a conflict, beforehand; 2, a fault; from 3 on,
-- GOOD with the data taken by each arm.
abbrev pub Leaves : Scope → Command → List Test → ℕ → UnitState → Item → Type 0
Leaves s c tests zero u i = (command_conflicts u.registry s.own c ≡ true) × IsRegistered s u i
Leaves s c tests (suc zero) u i = (command_conflicts u.registry s.own c ≡ false) × IsRegistered s u i
Leaves s c tests (suc (suc zero)) u i = (command_conflicts u.registry s.own c ≡ false) × (is_some (command_fault u.registry s.own c) ≡ true) × IsRegistered s u i
Leaves s c tests (suc (suc (suc n))) u i =
    (command_conflicts u.registry s.own c ≡ false) × (command_fault u.registry s.own c ≡ None)
    × (first_test tests (good (data_of u.registry c)) ≡ arm_of n) × IsRegistered s (effect u s.own c) i

-- the way of the states in which the command conflicts, or of those in which it does not
abbrev pub way_for : Bool → ℕ
way_for true = 0
way_for false = 1

-- among these shown states, one leaves this in this way, with these attentions pending for the owner
pub record IsFound (v : View) (c : Command) (tests : List Test) (Among : UnitState → Type 0) (way : ℕ) (i : Item) (q : ℕ) : Type 0 where
  pub unit : UnitState
  pub shown : Shows v unit
  pub among : Among unit
  pub leaves : Leaves v.scope c tests way unit i
  pub pending : IsSo v.scope unit (Attentions q)

-- the new tally has what the old one has, and what the shown states among these leave
pub record Grows (v : View) (c : Command) (tests : List Test) (old new : Tally) (Among : UnitState → Type 0) : Type 0 where
  pub kept : (way : ℕ) (i : Item) → has_tallied old way i ≡ true → has_tallied new way i ≡ true
  pub all : (u : UnitState) (way : ℕ) (i : Item) → Shows v u → Among u → Leaves v.scope c tests way u i → has_tallied new way i ≡ true
  pub only : (way : ℕ) (i : Item) (q : ℕ) → has_tallied new way i ≡ true → v.pending q ≡ true → (has_tallied old way i ≡ true) ⊎ IsFound v c tests Among way i q

-- ---- one branch

-- What is known of a branch at a place: it says how the command ends in the states of its region, and this is the
-- way of the arm that takes the data.
pub record IsRight (s : Scope) (c : Command) (tests : List Test) (view : Possibilities) (place : Place) (senders : BitSet) (b : Branch) (arm : ℕ) : Type 0 where
  pub own : place.sender ≡ s.own
  pub is : IsPlace s view place
  pub uniform : IsUniform senders
  pub proper : IsProper b.region
  pub ends : (u : UnitState) → IsAt (view_in s view) place senders b.region u → Ends s s.own b.ending u c
  pub taken : (u : UnitState) → IsAt (view_in s view) place senders b.region u → command_conflicts u.registry s.own c ≡ false → first_test tests (good (data_of u.registry c)) ≡ arm_of arm

-- the tally of all states that the view shows
pub record IsTally (v : View) (c : Command) (tests : List Test) (t : Tally) : Type 0 where
  pub all : (u : UnitState) (way : ℕ) (i : Item) → Shows v u → Leaves v.scope c tests way u i → has_tallied t way i ≡ true
  pub only : (way : ℕ) (i : Item) (q : ℕ) → has_tallied t way i ≡ true → v.pending q ≡ true → IsFound v c tests (λ u. Unit {0}) way i q

-- ---- the registrations of a sender

-- the reservation of the place stands
abbrev pub IsUnder : Scope → Place → UnitState → Type 0
IsUnder s place u = IsSo s u (Reservation place.reservation)

-- it stands, and the place's sender has this registration
abbrev pub HasBoth : Scope → Place → ℕ → UnitState → Type 0
HasBoth s place r u = IsUnder s place u × IsSo s u (Registration place.sender r)

-- it stands, and the sender has one of these registrations
abbrev pub HasOneOf : Scope → Place → BitSet → UnitState → Type 0
HasOneOf s place senders u = (r : ℕ) × (has senders r ≡ true) × HasBoth s place r u

-- one of the first n reservations stands
abbrev pub IsReserved : Scope → ℕ → UnitState → Type 0
IsReserved s n u = number_of s.hosts u.registry.held < n

-- ---- registrations of the sender that are alike

-- What is known of the command at a place where the sender has one of these registrations, and its reservation key is accepted:
-- its purpose, how the sender stands to it, and the arm that takes the data where it ends GOOD.
pub record IsAsked (s : Scope) (c : Command) (tests : List Test) (view : Possibilities) (place : Place) (purpose : Purpose) (arm : ℕ) (senders : BitSet) (standing : Standing) : Type 0 where
  pub own : place.sender ≡ s.own
  pub is : IsPlace s view place
  pub uniform : IsUniform senders
  pub asks : purpose_of s.keys c ≡ Some purpose
  pub stands : (r : ℕ) → has senders r ≡ true → standing_of purpose r ≡ standing
  pub accepted : (r : ℕ) → has senders r ≡ true → is_not_admitted (key_at s.keys r) c ≡ false
  pub taken : (u : State) → first_test tests (good (data_of u c)) ≡ arm_of arm

-- The reservation key of the command is not accepted from a sender with one of these registrations.
pub record IsRefusedAt (s : Scope) (c : Command) (view : Possibilities) (place : Place) (senders : BitSet) : Type 0 where
  pub own : place.sender ≡ s.own
  pub is : IsPlace s view place
  pub uniform : IsUniform senders
  pub refused : (r : ℕ) → has senders r ≡ true → is_not_admitted (key_at s.keys r) c ≡ true

-- ---- one reservation

-- the place is one of this scope's owner, who sends the command, and the keys are the scope's
pub record IsOwners (s : Scope) (keys : List ℕ) (view : Possibilities) (place : Place) : Type 0 where
  pub own : place.sender ≡ s.own
  pub same_keys : s.keys ≡ keys
  pub is : IsPlace s view place

-- the scope of these nexuses and keys, whose owner is the sender
abbrev pub scope_at : List ℕ → ℕ → ℕ → Scope
scope_at keys hosts sender = record { own = sender; hosts = hosts; keys = keys }

-- the possibilities are a view of this scope, of these nexuses and keys
pub record IsOfScope (s : Scope) (hosts own : ℕ) (keys : List ℕ) (view : Possibilities) : Type 0 where
  pub same_hosts : s.hosts ≡ hosts
  pub same_own : s.own ≡ own
  pub same_keys : s.keys ≡ keys
  pub fits : Fits (view_in s view)

-- ---- the arms that take the data of READ KEYS and READ RESERVATION

-- the state is in the reading's region, and its sender has registration r
abbrev pub IsReadAt : Scope → Possibilities → Place → ℕ → Reading → UnitState → Type 0
IsReadAt s view place r reading u = HasBoth s place r u × IsInRegion s place.sender reading.region u

-- What is known of a reading: the command only looks, and where the sender has registration r its data is taken by
-- the arm that the reading names.
pub record IsRightReading (s : Scope) (c : Command) (tests : List Test) (view : Possibilities) (place : Place) (r : ℕ) (b : Reading) : Type 0 where
  pub own : place.sender ≡ s.own
  pub is : IsPlace s view place
  pub few : length tests ≤ MOST_ARMS
  pub reads : (is_read_keys c || is_read_reservation c) ≡ true
  pub proper : IsUntestedOrRegistered b.region.somebody
  pub looks : (change : Transition) → Does change None never place.reservation tells_nobody → (u : UnitState) → Shows (view_in s view) u → HasBoth s place r u
      → Ends s s.own (ending.Good change) u c
  pub taken : (u : UnitState) → Shows (view_in s view) u → IsReadAt s view place r b u → first_test tests (good (data_of u.registry c)) ≡ b.arm

-- ---- what is added to a tally

-- where the branch is right, what the shown states of its region leave
abbrev pub AddsBranch : Possibilities → Place → BitSet → Branch → ℕ → Tally → Tally → Type 0
AddsBranch view place senders b arm old new =
    (s : Scope) (c : Command) (tests : List Test) → IsRight s c tests view place senders b arm
    → Grows (view_in s view) c tests old new (IsAt (view_in s view) place senders b.region)

-- where all branches are, what those of all regions leave
abbrev pub AddsBranches : Possibilities → Place → BitSet → List Branch → ℕ → Tally → Tally → Type 0
AddsBranches view place senders branches arm old new =
    (s : Scope) (c : Command) (tests : List Test) → All (λ b. IsRight s c tests view place senders b arm) branches
    → Grows (view_in s view) c tests old new (λ u. Any (λ b. IsAt (view_in s view) place senders b.region u) branches)

-- where the reservation key is accepted of these registrations, what the shown states leave in which the sender has one of them
abbrev pub AddsAccepted : Possibilities → Place → Purpose → ℕ → BitSet → Standing → Tally → Tally → Type 0
AddsAccepted view place purpose arm senders standing old new =
    (s : Scope) (c : Command) (tests : List Test) → IsAsked s c tests view place purpose arm senders standing → Grows (view_in s view) c tests old new (HasOneOf s place senders)

-- where it is not accepted, what those leave
abbrev pub AddsRefused : Possibilities → Place → BitSet → Tally → Tally → Type 0
AddsRefused view place senders old new =
    (s : Scope) (c : Command) (tests : List Test) → IsRefusedAt s c view place senders → Grows (view_in s view) c tests old new (HasOneOf s place senders)

-- where the reading is right, what the shown states of it leave
abbrev pub AddsReading : Possibilities → Place → ℕ → Reading → Tally → Tally → Type 0
AddsReading view place r reading old new =
    (s : Scope) (c : Command) (tests : List Test) → IsRightReading s c tests view place r reading → Grows (view_in s view) c tests old new (IsReadAt s view place r reading)

-- where all readings are, what those of all leave
abbrev pub AddsReadings : Possibilities → Place → ℕ → List Reading → Tally → Tally → Type 0
AddsReadings view place r readings old new =
    (s : Scope) (c : Command) (tests : List Test) → All (IsRightReading s c tests view place r) readings
    → Grows (view_in s view) c tests old new (λ u. Any (λ b. IsReadAt s view place r b u) readings)

-- what is so of registrations and reservation in the shown states of this region is in the tally, of the ways of no conflict and of
-- this arm
abbrev pub AreTallied : Possibilities → Place → BitSet → Region → ℕ → Tally → Type 0
AreTallied view place senders region arm t =
    (s : Scope) → IsPlace s view place → IsUniform senders → (u : UnitState) (i : Item) → IsAt (view_in s view) place senders region u
    → IsRegistered s u i → (has_tallied t 1 i ≡ true) × (has_tallied t (3 + arm) i ≡ true)
