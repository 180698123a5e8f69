-- Agrees with SPC-4, 'Reservations', 'Registering', 'Preempting'; docs/MODEL.md, 'RESERVE'.
-- What a command demands, and the reservation key that it has to name (SPC-4, 'Reservations': the table of
-- PERSISTENT RESERVE OUT service actions that are allowed in the presence of reservations).
use Rattle.std.specs.Prelude.{ℕ, ◌+◌, Bool, false, not, ◌==◌, nat_le, if◌then◌else◌, Option, Some, None}
use Rattle.pr_cdb.specs.declared.command.Kind.{Kind}
use Rattle.pr_cdb.specs.declared.command.Command.{Command}
use Rattle.pr_cdb.specs.declared.command.Command.TheVariants as command
use Rattle.pr_registry.specs.Hosts.{is_key}
use Rattle.pr_unit.specs.declared.unit.TheConstants.{CAPACITY}
use Rattle.pr_unit.specs.declared.demand.Demand.{Demand}
use Rattle.pr_unit.specs.declared.demand.Demand.TheVariants.{Look, Read, Write, Register, Unregister, Reserve, Release, Clear, PreemptAll, Preempt}
use Rattle.pr_unit.specs.declared.demand.Admission.{Admission}
use Rattle.pr_unit.specs.declared.demand.Admission.TheVariants.{Open, OwnOrNone, Own}

-- what a command asks for: its keys stand for themselves, and a PREEMPT may come without a type
abbrev pub Asked : Type 0
Asked = Demand ℕ (Option Kind)

-- the blocks are among those of the unit
abbrev pub is_in_range : ℕ → ℕ → Bool
is_in_range lba blocks = nat_le (lba + blocks) CAPACITY

-- either REGISTER: the key zero unregisters
abbrev pub registering : ℕ → Asked
registering sark = if sark == 0 then Unregister else Register sark

-- either PREEMPT: the key zero is all other registrations
abbrev pub preempting : ℕ → Option Kind → Asked
preempting sark kind = if sark == 0 then PreemptAll kind else Preempt sark kind

-- REGISTER needs the sender's key, or zero where it has none. Every other service action but REGISTER AND IGNORE
-- EXISTING KEY needs the key of a registered sender.
abbrev pub asks : Command → Admission × Asked
asks command.TestUnitReady = (Open, Look)
asks command.RequestSense = (Open, Look)
asks (command.Read lba blocks) = (Open, Read (is_in_range lba blocks))
asks (command.Write lba blocks) = (Open, Write (is_in_range lba blocks))
asks (command.ReadKeys alloc) = (Open, Look)
asks (command.ReadReservation alloc) = (Open, Look)
asks (command.ReportCapabilities alloc) = (Open, Look)
asks (command.Register rk sark) = (OwnOrNone rk, registering sark)
asks (command.RegisterIgnore sark) = (Open, registering sark)
asks (command.Reserve rk kind) = (Own rk, Reserve kind)
asks (command.Release rk kind) = (Own rk, Release kind)
asks (command.Clear rk) = (Own rk, Clear)
asks (command.Preempt rk sark kind) = (Own rk, preempting sark kind)
asks (command.PreemptAbort rk sark kind) = (Own rk, preempting sark kind)

abbrev pub admission_of : Command → Admission
admission_of c = (asks c).0

abbrev pub demand_of : Command → Asked
demand_of c = (asks c).1

-- it is neither the key nor, where there is none, zero
abbrev pub is_wrong_key : Option ℕ → ℕ → Bool
is_wrong_key None rk = not (rk == 0)
is_wrong_key (Some k) rk = not (k == rk)

-- a sender with this key, if it has one, is not admitted
abbrev pub keeps_out : Admission → Option ℕ → Bool
keeps_out Open key = false
keeps_out (OwnOrNone rk) key = is_wrong_key key rk
keeps_out (Own rk) key = not (is_key key rk)

-- so it is with this command
abbrev pub is_not_admitted : Option ℕ → Command → Bool
is_not_admitted key c = keeps_out (admission_of c) key
