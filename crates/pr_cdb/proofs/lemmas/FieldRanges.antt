-- What bytes are read as has its fields in range.
use Rattle.std.proofs.Common.{ℕ, ◌+◌, ◌%◌, ◌<◌, ◌^◌, Bool, true, false, ◌==◌, ◌&&◌, ◌||◌, not, nat_lt, if◌then◌else◌, List, length, slice_index, Option, Some, None, is_none, Result, arith}
use Rattle.std.specs.Option.{option_map_or}
use Rattle.pr_cdb.specs.declared.codes.TheConstants.{TEST_UNIT_READY, REQUEST_SENSE, INQUIRY, READ_10, WRITE_10, PERSISTENT_RESERVE_IN, PERSISTENT_RESERVE_OUT, REPORT_LUNS, READ_KEYS, READ_RESERVATION, REPORT_CAPABILITIES, REGISTER, RESERVE, RELEASE, CLEAR, PREEMPT, PREEMPT_AND_ABORT, REGISTER_AND_IGNORE_EXISTING_KEY, DESC, INVALID_FIELD_IN_CDB, PARAMETER_LIST_LENGTH, FIXED_SENSE_LENGTH}
use Rattle.pr_cdb.specs.declared.command.Kind.{Kind}
use Rattle.pr_cdb.specs.declared.command.Command.{Command}
use Rattle.pr_cdb.specs.declared.wire.Request.{Request}
use Rattle.pr_cdb.specs.declared.wire.Bad.{Bad}
use Rattle.pr_cdb.specs.Bytes.{be16, be32, be64, has_flag}
use Rattle.pr_cdb.specs.Requests.{request_of, named_command, reserve_out_command, kind_of_byte, length_of, has_refused_flag, plain_request, faulty_request, AreBytes}
use Rattle.pr_cdb.specs.Ranges.{Fits, FitsWhereRead}

pub be16-lt : (bytes : List ℕ) (i : ℕ) → AreBytes bytes → be16 bytes i < 2 ^ 16
unfolding be16
be16-lt bytes i are = omega (arith, are i, are (i + 1))

pub be32-lt : (bytes : List ℕ) (i : ℕ) → AreBytes bytes → be32 bytes i < 2 ^ 32
unfolding be32
be32-lt bytes i are = omega (arith, are i, are (i + 1), are (i + 2), are (i + 3))

pub be64-lt : (bytes : List ℕ) (i : ℕ) → AreBytes bytes → be64 bytes i < 2 ^ 64
unfolding be64
be64-lt bytes i are =
    omega (arith, are i, are (i + 1), are (i + 2), are (i + 3), are (i + 4), are (i + 5), are (i + 6), are (i + 7))

abbrev pub FitsIfSome : Option Command → Type 0
FitsIfSome None = Unit {0}
FitsIfSome (Some c) = Fits c

-- records, so that antt finds what they speak of
record Named (o : Option Command) : Type 0 where
  fits : FitsIfSome o

record Read (r : Result Request Bad) : Type 0 where
  fits : FitsWhereRead r

one_of : (b : Bool) {x y : Option Command} → Named x → Named y → Named (if b then x else y)
one_of true p q = p
one_of false p q = q

either : (b : Bool) {x y : Result Request Bad} → Read x → Read y → Read (if b then x else y)
either true p q = p
either false p q = q

Named-reserve_out : (action : ℕ) (kind : Option Kind) (rk sark : ℕ) → rk < 2 ^ 64 → sark < 2 ^ 64 → Named (reserve_out_command action kind rk sark)
unfolding reserve_out_command
Named-reserve_out action None rk sark r s =
    one_of (action == REGISTER) (record { fits = (r, s) }) (one_of (action == RESERVE) (record { fits = tt }) (one_of (action == RELEASE) (record { fits = tt }) (
    one_of (action == CLEAR) (record { fits = r }) (one_of (action == PREEMPT) (record { fits = (r, s) }) (one_of (action == PREEMPT_AND_ABORT) (record { fits = (r, s) }) (
    one_of (action == REGISTER_AND_IGNORE_EXISTING_KEY) (record { fits = s }) (record { fits = tt })))))))
Named-reserve_out action (Some k) rk sark r s =
    one_of (action == REGISTER) (record { fits = (r, s) }) (one_of (action == RESERVE) (record { fits = r }) (one_of (action == RELEASE) (record { fits = r }) (
    one_of (action == CLEAR) (record { fits = r }) (one_of (action == PREEMPT) (record { fits = (r, s) }) (one_of (action == PREEMPT_AND_ABORT) (record { fits = (r, s) }) (
    one_of (action == REGISTER_AND_IGNORE_EXISTING_KEY) (record { fits = s }) (record { fits = tt })))))))

Named-named : (cdb params : List ℕ) → AreBytes cdb → AreBytes params → Named (named_command cdb params)
unfolding named_command
Named-named cdb params c p =
    let opcode = slice_index cdb 0 in
    let action = slice_index cdb 1 % 32 in
    let blocks = be16-lt cdb 7 c in
    one_of (opcode == TEST_UNIT_READY) (record { fits = tt }) (one_of (opcode == REQUEST_SENSE) (record { fits = tt }) (
    one_of (opcode == READ_10) (record { fits = (be32-lt cdb 2 c, blocks) }) (one_of (opcode == WRITE_10) (record { fits = (be32-lt cdb 2 c, blocks) }) (
    one_of (opcode == PERSISTENT_RESERVE_IN) (one_of (action == READ_KEYS) (record { fits = blocks }) (one_of (action == READ_RESERVATION) (record { fits = blocks }) (
    one_of (action == REPORT_CAPABILITIES) (record { fits = blocks }) (record { fits = tt }))))
    (Named-reserve_out action (kind_of_byte (slice_index cdb 2)) (be64 params 0) (be64 params 8) (be64-lt params 0 p) (be64-lt params 8 p))))))

Read-named : (o : Option Command) → Named o → Read (option_map_or (λ c. plain_request c) o (faulty_request INVALID_FIELD_IN_CDB))
Read-named None n = record { fits = tt }
Read-named (Some c) n = record { fits = n.fits }

Read-request_of : (cdb params : List ℕ) → AreBytes cdb → AreBytes params → Read (request_of cdb params)
unfolding request_of
Read-request_of cdb params c p =
    let opcode = slice_index cdb 0 in
    let action = slice_index cdb 1 % 32 in
    let is_sense = opcode == REQUEST_SENSE in
    let is_out = opcode == PERSISTENT_RESERVE_OUT in
    either (length cdb == 0) (record { fits = tt }) (
    either (opcode == INQUIRY || opcode == REPORT_LUNS) (record { fits = tt }) (
    either (length_of opcode == 0) (record { fits = tt }) (
    either (nat_lt (length cdb) (length_of opcode)) (record { fits = tt }) (
    either (is_sense && has_flag (slice_index cdb 1) DESC) (record { fits = tt }) (
    either (is_sense && nat_lt (slice_index cdb 4) FIXED_SENSE_LENGTH) (record { fits = tt }) (
    either (is_out && nat_lt REGISTER_AND_IGNORE_EXISTING_KEY action) (record { fits = tt }) (
    either (is_out && not (be32 cdb 5 == PARAMETER_LIST_LENGTH)) (record { fits = tt }) (
    either (is_out && nat_lt (length params) PARAMETER_LIST_LENGTH) (record { fits = tt }) (
    either (is_none (named_command cdb params)) (record { fits = tt }) (
    either (is_out && has_refused_flag action (slice_index params 20)) (record { fits = tt })
    (Read-named (named_command cdb params) (Named-named cdb params c p))))))))))))

pub reads_fit : (cdb params : List ℕ) → AreBytes cdb → AreBytes params → FitsWhereRead (request_of cdb params)
reads_fit cdb params c p = (Read-request_of cdb params c p).fits
