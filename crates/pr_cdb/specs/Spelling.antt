-- Agrees with SPC-4, 'PERSISTENT RESERVE OUT command'; docs/FORMATS.md, 'How bytes are written'.
-- The bytes of each command, with zero in every field that the command does not name (SPC-4, 'TEST UNIT
-- READY', 'REQUEST SENSE', 'PERSISTENT RESERVE IN' and 'PERSISTENT RESERVE OUT command'; SBC-3, 'READ
-- (10)' and 'WRITE (10) command').
use Rattle.std.specs.Prelude.{ℕ, List, [], ◌∷◌, ◌++◌, Option, Some, None}
use Rattle.std.specs.Option.{option_map_or}
use Rattle.std.specs.Int.{w16, w32, w64, to_be_bytes}
use Rattle.pr_cdb.specs.declared.codes.TheConstants.{TEST_UNIT_READY, REQUEST_SENSE, READ_10, WRITE_10, PERSISTENT_RESERVE_IN, PERSISTENT_RESERVE_OUT, READ_KEYS, READ_RESERVATION, REPORT_CAPABILITIES, REGISTER, RESERVE, RELEASE, CLEAR, PREEMPT, PREEMPT_AND_ABORT, REGISTER_AND_IGNORE_EXISTING_KEY, FIXED_SENSE_LENGTH, PARAMETER_LIST_LENGTH}
use Rattle.pr_cdb.specs.declared.command.Kind.{Kind}
use Rattle.pr_cdb.specs.declared.command.Command.{Command}
use Rattle.pr_cdb.specs.declared.command.Command.TheVariants as command
use Rattle.pr_cdb.specs.declared.action.ServiceAction.{ServiceAction}
use Rattle.pr_cdb.specs.declared.action.ServiceAction.TheVariants as action
use Rattle.pr_cdb.specs.declared.layout.Layout.{Layout}
use Rattle.pr_cdb.specs.declared.layout.Layout.TheVariants.{TestUnitReady, RequestSense, Read, Write, ReserveIn, ReserveOut}
use Rattle.pr_cdb.specs.declared.wire.Wire.{Wire}
use Rattle.pr_cdb.specs.Kinds.{type_code}

-- a command descriptor block and its parameter list
abbrev pub wire_of : List ℕ → List ℕ → Wire
wire_of cdb params = record { cdb = record { items = cdb }; params = record { items = params } }

-- six bytes, of which the fifth is the allocation length
abbrev pub six : ℕ → ℕ → Wire
six opcode alloc = wire_of (opcode ∷ 0 ∷ 0 ∷ 0 ∷ alloc ∷ 0 ∷ []) []

-- READ (10) and WRITE (10): the address of the first block, and how many blocks there are
abbrev pub transfer : ℕ → ℕ → ℕ → Wire
transfer opcode lba blocks =
    wire_of ((opcode ∷ 0 ∷ []) ++ to_be_bytes w32 lba ++ (0 ∷ []) ++ to_be_bytes w16 blocks ++ (0 ∷ [])) []

-- PERSISTENT RESERVE IN: a service action and the allocation length
abbrev pub reserve_in : ℕ → ℕ → Wire
reserve_in action alloc = wire_of ((PERSISTENT_RESERVE_IN ∷ action ∷ 0 ∷ 0 ∷ 0 ∷ 0 ∷ 0 ∷ []) ++ to_be_bytes w16 alloc ++ (0 ∷ [])) []

-- PERSISTENT RESERVE OUT: a service action, scope and type, and a parameter list with the
-- reservation key and the service action reservation key
abbrev pub reserve_out : ℕ → ℕ → ℕ → ℕ → Wire
reserve_out action kind rk sark =
    wire_of
    (PERSISTENT_RESERVE_OUT ∷ action ∷ kind ∷ 0 ∷ 0 ∷ 0 ∷ 0 ∷ 0 ∷ PARAMETER_LIST_LENGTH ∷ 0 ∷ [])
    (to_be_bytes w64 rk ++ to_be_bytes w64 sark ++ (0 ∷ 0 ∷ 0 ∷ 0 ∷ 0 ∷ 0 ∷ 0 ∷ 0 ∷ []))

-- scope and type: the scope is the logical unit's, which is 0. No type is written as 0.
abbrev pub kind_byte : Option Kind → ℕ
kind_byte kind = option_map_or type_code kind 0

-- a command by its operation code, with the fields that it sends: a key that its service action does not name is zero, and a type
-- that it does not is none
abbrev pub layout_of : Command → Layout
layout_of command.TestUnitReady = TestUnitReady
layout_of command.RequestSense = RequestSense
layout_of (command.Read lba blocks) = Read lba blocks
layout_of (command.Write lba blocks) = Write lba blocks
layout_of (command.ReadKeys alloc) = ReserveIn action.ReadKeys alloc
layout_of (command.ReadReservation alloc) = ReserveIn action.ReadReservation alloc
layout_of (command.ReportCapabilities alloc) = ReserveIn action.ReportCapabilities alloc
layout_of (command.Register rk sark) = ReserveOut action.Register None rk sark
layout_of (command.RegisterIgnore sark) = ReserveOut action.RegisterIgnore None 0 sark
layout_of (command.Reserve rk kind) = ReserveOut action.Reserve (Some kind) rk 0
layout_of (command.Release rk kind) = ReserveOut action.Release (Some kind) rk 0
layout_of (command.Clear rk) = ReserveOut action.Clear None rk 0
layout_of (command.Preempt rk sark kind) = ReserveOut action.Preempt kind rk sark
layout_of (command.PreemptAbort rk sark kind) = ReserveOut action.PreemptAbort kind rk sark

-- the number of a service action
abbrev pub action_number : ServiceAction → ℕ
action_number action.ReadKeys = READ_KEYS
action_number action.ReadReservation = READ_RESERVATION
action_number action.ReportCapabilities = REPORT_CAPABILITIES
action_number action.Register = REGISTER
action_number action.RegisterIgnore = REGISTER_AND_IGNORE_EXISTING_KEY
action_number action.Reserve = RESERVE
action_number action.Release = RELEASE
action_number action.Clear = CLEAR
action_number action.Preempt = PREEMPT
action_number action.PreemptAbort = PREEMPT_AND_ABORT

-- the operation code of a command
abbrev pub layout_opcode : Layout → ℕ
layout_opcode TestUnitReady = TEST_UNIT_READY
layout_opcode RequestSense = REQUEST_SENSE
layout_opcode (Read lba blocks) = READ_10
layout_opcode (Write lba blocks) = WRITE_10
layout_opcode (ReserveIn action alloc) = PERSISTENT_RESERVE_IN
layout_opcode (ReserveOut action kind rk sark) = PERSISTENT_RESERVE_OUT

abbrev pub operation_code : Command → ℕ
operation_code c = layout_opcode (layout_of c)

abbrev pub laid_out : Layout → Wire
laid_out TestUnitReady = six TEST_UNIT_READY 0
laid_out RequestSense = six REQUEST_SENSE FIXED_SENSE_LENGTH
laid_out (Read lba blocks) = transfer READ_10 lba blocks
laid_out (Write lba blocks) = transfer WRITE_10 lba blocks
laid_out (ReserveIn action alloc) = reserve_in (action_number action) alloc
laid_out (ReserveOut action kind rk sark) = reserve_out (action_number action) (kind_byte kind) rk sark

unfoldable pub spelling : Command → Wire
spelling c = laid_out (layout_of c)
