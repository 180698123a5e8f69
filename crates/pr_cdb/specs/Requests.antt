-- Agrees with SPC-4, 'PERSISTENT RESERVE IN command', 'PERSISTENT RESERVE OUT command'; docs/FORMATS.md, 'How bytes are read'.
-- What two byte lists, a command descriptor block and a parameter list, ask of the logical unit.
use Rattle.std.specs.Prelude.{ℕ, ◌/◌, ◌%◌, ◌<◌, Bool, ◌==◌, ◌&&◌, ◌||◌, not, nat_lt, if◌then◌else◌, List, length, slice_index, Option, Some, None, is_none, option_map, Result, Ok, Err}
use Rattle.std.specs.Option.{option_map_or}
use Rattle.pr_cdb.specs.declared.codes.TheConstants.{TEST_UNIT_READY, REQUEST_SENSE, INQUIRY, READ_10, WRITE_10, PERSISTENT_RESERVE_IN, PERSISTENT_RESERVE_OUT, REPORT_LUNS, READ_KEYS, READ_RESERVATION, REGISTER, RESERVE, RELEASE, CLEAR, PREEMPT, PREEMPT_AND_ABORT, REGISTER_AND_IGNORE_EXISTING_KEY, REPORT_CAPABILITIES, SPEC_I_PT, ALL_TG_PT, APTPL, DESC, ILLEGAL_REQUEST, PARAMETER_LIST_LENGTH_ERROR, INVALID_COMMAND_OPERATION_CODE, INVALID_FIELD_IN_CDB, INVALID_FIELD_IN_PARAMETER_LIST, SIX_BYTE_CDB, TEN_BYTE_CDB, PARAMETER_LIST_LENGTH, FIXED_SENSE_LENGTH}
use Rattle.pr_cdb.specs.declared.command.Kind.{Kind}
use Rattle.pr_cdb.specs.declared.command.Command.{Command}
use Rattle.pr_cdb.specs.declared.command.Command.TheVariants.{TestUnitReady, RequestSense, Read, Write, ReadKeys, ReadReservation, ReportCapabilities, Register, RegisterIgnore, Reserve, Release, Clear, Preempt, PreemptAbort}
use Rattle.pr_cdb.specs.declared.wire.Wire.{Wire}
use Rattle.pr_cdb.specs.declared.wire.Request.{Request}
use Rattle.pr_cdb.specs.declared.wire.Request.TheVariants.{Plain, Faulty}
use Rattle.pr_cdb.specs.declared.wire.Bad.{Bad}
use Rattle.pr_cdb.specs.declared.wire.Bad.TheVariants.{Short, NotModelled}
use Rattle.pr_cdb.specs.Kinds.{kind_of_code}
use Rattle.pr_cdb.specs.Bytes.{be16, be32, be64, has_flag}

-- the command is read, and is this one
abbrev pub plain_request : Command → Result Request Bad
plain_request c = Ok (Plain c)

-- ILLEGAL REQUEST (5h) with this additional sense code
abbrev pub faulty_request : ℕ → Result Request Bad
faulty_request asc = Ok (Faulty (record { key = ILLEGAL_REQUEST; asc = asc; ascq = 0 }))

-- how many bytes a command with this operation code has, and 0 where the unit has no such command
-- (SPC-4, 'TEST UNIT READY', 'REQUEST SENSE', 'PERSISTENT RESERVE IN' and 'PERSISTENT RESERVE OUT
-- command'; SBC-3, 'READ (10)' and 'WRITE (10) command')
unfoldable pub length_of : ℕ → ℕ
length_of opcode =
    if opcode == TEST_UNIT_READY || opcode == REQUEST_SENSE then SIX_BYTE_CDB else (
    if opcode == READ_10 || opcode == WRITE_10 || opcode == PERSISTENT_RESERVE_IN || opcode == PERSISTENT_RESERVE_OUT then TEN_BYTE_CDB else 0)

-- the type in a byte that has the scope in its high four bits and the type in its low four: there is one
-- under the scope of the logical unit alone, which is 0
unfoldable pub kind_of_byte : ℕ → Option Kind
kind_of_byte b = if b / 16 == 0 then kind_of_code (b % 16) else None

-- a flag of the parameter list that this service action refuses: SPEC_I_PT in each, ALL_TG_PT and APTPL
-- in REGISTER and in REGISTER AND IGNORE EXISTING KEY
unfoldable pub has_refused_flag : ℕ → ℕ → Bool
has_refused_flag action flags =
    has_flag flags SPEC_I_PT || ((action == REGISTER || action == REGISTER_AND_IGNORE_EXISTING_KEY) && (has_flag flags ALL_TG_PT || has_flag flags APTPL))

-- the service action of PERSISTENT RESERVE IN, over its allocation length
abbrev pub reserve_in_command : ℕ → ℕ → Option Command
reserve_in_command action alloc =
    if action == READ_KEYS then Some (ReadKeys alloc) else (
    if action == READ_RESERVATION then Some (ReadReservation alloc) else (
    if action == REPORT_CAPABILITIES then Some (ReportCapabilities alloc) else None))

-- the service action of PERSISTENT RESERVE OUT, over its type and its two keys. RESERVE and RELEASE need
-- a type.
unfoldable pub reserve_out_command : ℕ → Option Kind → ℕ → ℕ → Option Command
reserve_out_command action kind rk sark =
    if action == REGISTER then Some (Register rk sark) else (
    if action == RESERVE then option_map (λ k. Reserve rk k) kind else (
    if action == RELEASE then option_map (λ k. Release rk k) kind else (
    if action == CLEAR then Some (Clear rk) else (
    if action == PREEMPT then Some (Preempt rk sark kind) else (
    if action == PREEMPT_AND_ABORT then Some (PreemptAbort rk sark kind) else (
    if action == REGISTER_AND_IGNORE_EXISTING_KEY then Some (RegisterIgnore sark) else None))))))

-- the command of the named fields. All other bits, the control byte among them, are ignored.
unfoldable pub named_command : List ℕ → List ℕ → Option Command
named_command cdb params =
    let opcode = slice_index cdb 0 in
    let action = slice_index cdb 1 % 32 in
    if opcode == TEST_UNIT_READY then Some TestUnitReady else (
    if opcode == REQUEST_SENSE then Some RequestSense else (
    if opcode == READ_10 then Some (Read (be32 cdb 2) (be16 cdb 7)) else (
    if opcode == WRITE_10 then Some (Write (be32 cdb 2) (be16 cdb 7)) else (
    if opcode == PERSISTENT_RESERVE_IN then reserve_in_command action (be16 cdb 7) else
    reserve_out_command action (kind_of_byte (slice_index cdb 2)) (be64 params 0) (be64 params 8)))))

-- What the logical unit reads. The first line that applies decides (SPC-4 names the faults and leaves
-- their order to the device server; this order is our own).
unfoldable pub request_of : List ℕ → List ℕ → Result Request Bad
request_of cdb params =
    let opcode = slice_index cdb 0 in
    let action = slice_index cdb 1 % 32 in
    let is_sense = opcode == REQUEST_SENSE in
    let is_out = opcode == PERSISTENT_RESERVE_OUT in
    if length cdb == 0 then Err Short else (
    if opcode == INQUIRY || opcode == REPORT_LUNS then Err (NotModelled opcode) else (
    if length_of opcode == 0 then faulty_request INVALID_COMMAND_OPERATION_CODE else (
    if nat_lt (length cdb) (length_of opcode) then Err Short else (
    if is_sense && has_flag (slice_index cdb 1) DESC then faulty_request INVALID_FIELD_IN_CDB else (
    if is_sense && nat_lt (slice_index cdb 4) FIXED_SENSE_LENGTH then Err (NotModelled opcode) else (
    if is_out && nat_lt REGISTER_AND_IGNORE_EXISTING_KEY action then faulty_request INVALID_FIELD_IN_CDB else (
    if is_out && not (be32 cdb 5 == PARAMETER_LIST_LENGTH) then faulty_request PARAMETER_LIST_LENGTH_ERROR else (
    if is_out && nat_lt (length params) PARAMETER_LIST_LENGTH then Err Short else (
    if is_none (named_command cdb params) then faulty_request INVALID_FIELD_IN_CDB else (
    if is_out && has_refused_flag action (slice_index params 20) then faulty_request INVALID_FIELD_IN_PARAMETER_LIST else
    option_map_or (λ c. plain_request c) (named_command cdb params) (faulty_request INVALID_FIELD_IN_CDB)))))))))))

-- what a command as it travels asks for
abbrev pub request_of_wire : Wire → Result Request Bad
request_of_wire wire = request_of wire.cdb.items wire.params.items

-- each number of the list is a byte
abbrev pub AreBytes : List ℕ → Type 0
AreBytes bytes = (i : ℕ) → slice_index bytes i < 256
