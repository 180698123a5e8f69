-- Agrees with SPC-4, 'Registering', 'Unregistering', 'Reserving', 'Releasing', 'Preempting', 'Clearing'; docs/MODEL.md, 'PREEMPT'.
-- What each demand comes to: what keeps its sender from it, its fault, what it makes of registrations, reservation and
-- PRGENERATION, and whom it removes and tells (SPC-4, 'Reservations', 'Registering', 'Unregistering', 'Reserving',
-- 'Releasing', 'Preempting', 'Clearing'; SBC-3, 'READ (10)' and 'WRITE (10) command').
use Rattle.std.specs.Prelude.{ℕ, Bool, true, false, not, ◌&&◌, ◌||◌, if◌then◌else◌, Option, Some, None, is_none}
use Rattle.pr_cdb.specs.declared.codes.TheConstants.{ILLEGAL_REQUEST, LOGICAL_BLOCK_ADDRESS_OUT_OF_RANGE, INVALID_FIELD_IN_CDB, INVALID_FIELD_IN_PARAMETER_LIST, INVALID_RELEASE_OF_PERSISTENT_RESERVATION}
use Rattle.pr_cdb.specs.declared.command.Kind.{Kind}
use Rattle.pr_cdb.specs.declared.command.Kind.TheVariants.{WriteExclusive, ExclusiveAccess, WriteExclusiveRegistrantsOnly, ExclusiveAccessRegistrantsOnly, WriteExclusiveAllRegistrants, ExclusiveAccessAllRegistrants}
use Rattle.pr_cdb.specs.declared.command.Command.{Command}
use Rattle.pr_cdb.specs.declared.reply.Sense.{Sense}
use Rattle.pr_cdb.specs.declared.wire.Request.{Request}
use Rattle.pr_cdb.specs.declared.wire.Request.TheVariants.{Plain, Faulty}
use Rattle.pr_registry.specs.declared.held.Held.{Held}
use Rattle.pr_registry.specs.declared.change.Change.{Change}
use Rattle.pr_registry.specs.Hosts.{has_no_registrant}
use Rattle.pr_registry.specs.Registrations.{State, key_of, is_registered, is_holder, kind_of}
use Rattle.pr_registry.specs.Changes.{no_change, is_held_as, is_held_by_all, conflicts_with_reserve, preempt_case, is_replacing, change_on_unregister, change_on_release, change_on_clear, change_on_preempt}
use Rattle.pr_registry.specs.Effects.{with_registration, without_registration, with_reservation, after_release, after_clear, after_preempt}
use Rattle.pr_unit.specs.declared.access.Access.{Access}
use Rattle.pr_unit.specs.declared.access.Access.TheVariants.{Everybody, Registrants, Holder}
use Rattle.pr_unit.specs.declared.demand.Demand.TheVariants.{Look, Read, Write, Register, Unregister, Reserve, Release, Clear, PreemptAll, Preempt}
use Rattle.pr_unit.specs.Demands.{Asked, demand_of, is_not_admitted}

-- ---- who may read and write

-- to whom a reservation leaves an access
abbrev pub read_access : Kind → Access
read_access WriteExclusive = Everybody
read_access ExclusiveAccess = Holder
read_access WriteExclusiveRegistrantsOnly = Everybody
read_access ExclusiveAccessRegistrantsOnly = Registrants
read_access WriteExclusiveAllRegistrants = Everybody
read_access ExclusiveAccessAllRegistrants = Registrants

abbrev pub write_access : Kind → Access
write_access WriteExclusive = Holder
write_access ExclusiveAccess = Holder
write_access WriteExclusiveRegistrantsOnly = Registrants
write_access ExclusiveAccessRegistrantsOnly = Registrants
write_access WriteExclusiveAllRegistrants = Registrants
write_access ExclusiveAccessAllRegistrants = Registrants

abbrev pub is_denied : State → ℕ → Access → Bool
is_denied u h Everybody = false
is_denied u h Registrants = not (is_registered u h)
is_denied u h Holder = not (is_holder u h)

abbrev pub access_conflicts : State → ℕ → Option Held → (Kind → Access) → Bool
access_conflicts u h None access = false
access_conflicts u h (Some v) access = is_denied u h (access (kind_of v))

-- ---- faults

-- ILLEGAL REQUEST, with this additional sense code and qualifier
abbrev pub illegal : ℕ → ℕ → Sense
illegal asc ascq = record { key = ILLEGAL_REQUEST; asc = asc; ascq = ascq }

-- logical block address out of range
abbrev pub range_fault : Bool → Option Sense
range_fault in_range = if in_range then None else Some (illegal LOGICAL_BLOCK_ADDRESS_OUT_OF_RANGE 0)

-- invalid release of persistent reservation: a holder names another type
abbrev pub release_fault : State → ℕ → Kind → Option Sense
release_fault u h kind =
    if is_holder u h && not (is_held_as u.held kind) then
    Some (illegal INVALID_FIELD_IN_PARAMETER_LIST INVALID_RELEASE_OF_PERSISTENT_RESERVATION) else None

-- a reservation that is replaced is replaced by one of a type
abbrev pub preempt_fault : Option Kind → Bool → Option Sense
preempt_fault kind replaces = if is_none kind && replaces then Some (illegal INVALID_FIELD_IN_CDB 0) else None

-- a key of zero is for a reservation of all registrants alone
abbrev pub preempt_all_fault : State → Option Kind → Option Sense
preempt_all_fault u kind =
    if not (is_held_by_all u.held) then Some (illegal INVALID_FIELD_IN_PARAMETER_LIST 0) else preempt_fault kind true

-- ---- demand by demand

-- what a demand of h comes to in a state, once h is admitted
pub record Conduct : Type 0 where
  -- what stands keeps h from it: RESERVATION CONFLICT
  pub kept : Bool
  -- its own fault: CHECK CONDITION
  pub fault : Option Sense
  -- The state once it has ended GOOD, and whom it then removes and tells. These two mean nothing where something keeps h from it,
  -- or where it is at fault.
  pub after : State
  pub change : Change

-- it ends GOOD, leaves this state, and tells nobody
abbrev pub leaves : State → Conduct
leaves v = record { kept = false; fault = None; after = v; change = no_change }

-- a registrant unregisters
abbrev pub unregistering : State → ℕ → Conduct
unregistering u h = record (leaves (without_registration u h)) { change = change_on_unregister u h }

abbrev pub conduct : State → ℕ → Asked → Conduct
conduct u h Look = leaves u
conduct u h (Read in_range) = record (leaves u) { kept = access_conflicts u h u.held read_access; fault = range_fault in_range }
conduct u h (Write in_range) = record (leaves u) { kept = access_conflicts u h u.held write_access; fault = range_fault in_range }
conduct u h (Register key) = leaves (with_registration u h key)
conduct u h Unregister = if is_registered u h then unregistering u h else leaves u
conduct u h (Reserve kind) = record (leaves (with_reservation u h kind)) { kept = conflicts_with_reserve u h u.held kind }
conduct u h (Release kind) = record (leaves (after_release u h kind)) { fault = release_fault u h kind; change = change_on_release u h kind }
conduct u h Clear = record (leaves (after_clear u)) { change = change_on_clear u h }
conduct u h (PreemptAll kind) = record (leaves (after_preempt u h 0 kind)) { fault = preempt_all_fault u kind; change = change_on_preempt u h 0 kind }
conduct u h (Preempt key kind) = record (leaves (after_preempt u h key kind)) {
  kept = has_no_registrant u.keys key;
  fault = preempt_fault kind (is_replacing (preempt_case u.keys u.held key));
  change = change_on_preempt u h key kind;
}

-- ---- which requests end in RESERVATION CONFLICT, and which of the others in CHECK CONDITION

-- its sender is not admitted, or what stands keeps it from what it asks for
abbrev pub command_conflicts : State → ℕ → Command → Bool
command_conflicts u h c = is_not_admitted (key_of u h) c || (conduct u h (demand_of c)).kept

abbrev pub command_fault : State → ℕ → Command → Option Sense
command_fault u h c = (conduct u h (demand_of c)).fault

-- bytes at fault never conflict
abbrev pub conflicts : State → ℕ → Request → Bool
conflicts u h (Plain c) = command_conflicts u h c
conflicts u h (Faulty sense) = false

abbrev pub fault : State → ℕ → Request → Option Sense
fault u h (Plain c) = command_fault u h c
fault u h (Faulty sense) = Some sense
