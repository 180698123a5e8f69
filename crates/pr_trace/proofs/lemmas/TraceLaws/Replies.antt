-- What a command is answered can be written in a trace: bytes that are not too many, and a sense whose fields are in range.
use Rattle.pr_trace.proofs.Common.{◌≡◌, ℕ, zero, suc, ◌*◌, ◌%◌, ◌<◌, ◌≤◌, Bool, true, false, ◌&&◌, List, [], ◌∷◌, ◌++◌, length, nat_lt, ◌==◌, slice_index, Some, None, Ok, Err, Option, Result, if◌then◌else◌, sym, refl, subst, arith, not, option_map_or, PARAMETER_LIST_LENGTH, Command, Reply, Status, AreBytes, State, most_declared, has_status, HasSense}
use Rattle.std.specs.Prelude.{◌||◌, take, IsTrue, is_none}
use Rattle.std.specs.FinMap as finmap
use Rattle.std.specs.Int.{w32, w64, to_be_bytes}
use Rattle.std.proofs.Common.{flat_map, le-leb}
use Rattle.pr_cdb.specs.declared.codes.TheConstants.{NO_SENSE, NO_ADDITIONAL_SENSE_INFORMATION, REQUEST_SENSE, INQUIRY, PERSISTENT_RESERVE_OUT, REPORT_LUNS, REGISTER_AND_IGNORE_EXISTING_KEY, DESC, INVALID_FIELD_IN_CDB, INVALID_FIELD_IN_PARAMETER_LIST, INVALID_RELEASE_OF_PERSISTENT_RESERVATION, LOGICAL_BLOCK_ADDRESS_OUT_OF_RANGE, FIXED_SENSE_LENGTH}
use Rattle.pr_cdb.specs.declared.command.Kind.{Kind}
use Rattle.pr_cdb.specs.declared.command.Command.TheVariants.{RequestSense, ReadKeys, ReadReservation, ReportCapabilities}
use Rattle.pr_cdb.specs.declared.reply.Sense.{Sense}
use Rattle.pr_cdb.specs.declared.reply.Status.TheVariants.{CheckCondition}
use Rattle.pr_cdb.specs.declared.wire.Request.{Request}
use Rattle.pr_cdb.specs.declared.wire.Request.TheVariants.{Plain, Faulty}
use Rattle.pr_cdb.specs.declared.wire.Bad.{Bad}
use Rattle.pr_cdb.specs.Bytes.{be32, has_flag}
use Rattle.pr_cdb.specs.Kinds.{type_code}
use Rattle.pr_cdb.specs.Requests.{request_of, named_command, length_of, has_refused_flag, plain_request, faulty_request}
use Rattle.pr_cdb.specs.ReplyData.{sense_bytes, keys_bytes, reservation_bytes, capabilities_bytes, cut}
use Rattle.pr_attention.specs.declared.attention.Attention.{Attention}
use Rattle.pr_attention.specs.declared.attention.Attention.TheVariants.{PowerOn}
use Rattle.pr_attention.specs.Attentions.{power_on, attention_sense, is_attention, code_of as code_of_attention}
use Rattle.pr_attention.proofs.lemmas.FourCodes.{which}
use Rattle.pr_registry.specs.Registrations.{IsWellFormed}
use Rattle.pr_registry.proofs.lemmas.Contents.{few_keys, length-keys_bytes}
use Rattle.pr_unit.specs.Conduct.{conflicts, fault, command_fault, conduct, preempt_fault, range_fault, illegal as illegal_request}
use Rattle.pr_unit.specs.UnitStates.{UnitState, IsWellFormed as IsWellFormedUnit, is_any_pending, is_pending}
use Rattle.pr_registry.specs.Changes.{preempt_case, is_replacing}
use Rattle.pr_unit.specs.declared.demand.Demand.TheVariants as demand
use Rattle.pr_unit.specs.Demands.{Asked, demand_of}
use Rattle.pr_unit.proofs.lemmas.Demands.{unregister_fault}
use Rattle.pr_unit.specs.Replies.{good, check, conflict, refused_with, report, is_request_sense, reservation, data_of}
use Rattle.pr_unit.specs.Steps.{IsDone, Step}
use Rattle.pr_roles.specs.declared.limits.TheConstants.{MOST_DECLARED_1, MOST_DECLARED_2}
use Rattle.pr_trace.specs.Versions.{most_data, since}
use Rattle.pr_roles.proofs.lemmas.Worlds.SpelledBytes.{both, code_small, literal, more, none, number}
use Rattle.pr_trace.proofs.lemmas.TraceLaws.Words.{data_are_bytes, data_short}

-- ---- data

-- bytes, and no more than this
pub record AreData (most : ℕ) (bytes : List ℕ) : Type 0 where
  pub small : AreBytes bytes
  pub short : length bytes ≤ most

taken : (n : ℕ) (bytes : List ℕ) → AreBytes bytes → AreBytes (take n bytes)
taken zero bytes are = none
taken (suc n) [] are = none
taken (suc n) (b ∷ bs) are = more b (take n bs) (are 0) (taken n bs (λ i. are (suc i)))

taken_short : (n : ℕ) (bytes : List ℕ) → length (take n bytes) ≤ length bytes
taken_short zero bytes = omega arith
taken_short (suc n) [] = omega arith
taken_short (suc n) (b ∷ bs) = omega (arith, taken_short n bs)

cut_data : (most alloc : ℕ) (bytes : List ℕ) → AreBytes bytes → length bytes ≤ most → AreData most (cut alloc bytes)
cut_data most alloc bytes are short = record { small = taken alloc bytes are; short = omega (arith, taken_short alloc bytes, short) }

keys_are : (keys : List ℕ) → AreBytes (flat_map (to_be_bytes w64) keys)
keys_are [] = none
keys_are (k ∷ ks) = both (to_be_bytes w64 k) (flat_map (to_be_bytes w64) ks) (number 8 k) (keys_are ks)

registered_are : (generation : ℕ) (keys : List ℕ) → AreBytes (keys_bytes generation keys)
unfolding keys_bytes
registered_are generation keys =
    let front = both (to_be_bytes w32 generation) (to_be_bytes w32 (8 * length keys)) (number 4 generation) (number 4 (8 * length keys)) in
    both (to_be_bytes w32 generation ++ to_be_bytes w32 (8 * length keys)) (flat_map (to_be_bytes w64) keys) front (keys_are keys)

held_are : (generation : ℕ) (held : Option (ℕ × Kind)) → AreBytes (reservation_bytes generation held) × (length (reservation_bytes generation held) ≤ 24)
unfolding reservation_bytes
held_are generation None = (both (to_be_bytes w32 generation) (to_be_bytes w32 0) (number 4 generation) (number 4 0), omega arith)
held_are generation (Some r) =
    let front = both (to_be_bytes w32 generation) (to_be_bytes w32 16) (number 4 generation) (number 4 16) in
    let key = both (to_be_bytes w32 generation ++ to_be_bytes w32 16) (to_be_bytes w64 r.0) front (number 8 r.0) in
    let kind = more (type_code r.1) (0 ∷ 0 ∷ []) (code_small r.1) (literal (0 ∷ 0 ∷ []) refl) in
    let zeros = both (0 ∷ 0 ∷ 0 ∷ 0 ∷ 0 ∷ []) (type_code r.1 ∷ 0 ∷ 0 ∷ []) (literal (0 ∷ 0 ∷ 0 ∷ 0 ∷ 0 ∷ []) refl) kind in
    (both (to_be_bytes w32 generation ++ to_be_bytes w32 16 ++ to_be_bytes w64 r.0) (0 ∷ 0 ∷ 0 ∷ 0 ∷ 0 ∷ type_code r.1 ∷ 0 ∷ 0 ∷ []) key zeros, omega arith)

capabilities : AreBytes capabilities_bytes × (length capabilities_bytes ≤ 8)
unfolding capabilities_bytes
capabilities = (literal (0x00 ∷ 0x08 ∷ 0x00 ∷ 0x80 ∷ 0xea ∷ 0x01 ∷ 0x00 ∷ 0x00 ∷ []) refl, omega arith)

-- a version has at least eight nexuses
room : (version : ℕ) → 8 ≤ most_declared version
room version = at (version == 1)
  where
    at : (first : Bool) → 8 ≤ (if first then MOST_DECLARED_1 else MOST_DECLARED_2)
    at true = omega arith
    at false = omega arith

no_data : (version : ℕ) → AreData (most_data version) []
no_data version = record { small = none; short = omega arith }

-- the data of a command that ends GOOD
done_data : (version : ℕ) (u : State) (c : Command) → IsWellFormed u → u.hosts ≤ most_declared version → AreData (most_data version) (data_of u c)
done_data version u RequestSense formed few =
    let sense : Sense = record { key = NO_SENSE; asc = NO_ADDITIONAL_SENSE_INFORMATION; ascq = 0 } in
    record { small = data_are_bytes CheckCondition (Some sense) (omega arith, omega arith, omega arith); short = omega (arith, data_short (Some sense), room version) }
done_data version u (ReadKeys alloc) formed few =
    let keys = finmap.values u.keys in
    cut_data (most_data version) alloc (keys_bytes u.generation keys) (registered_are u.generation keys) (omega (arith, length-keys_bytes u.generation keys, few_keys u formed, few))
done_data version u (ReadReservation alloc) formed few =
    let held = held_are u.generation (reservation u.keys u.held) in
    cut_data (most_data version) alloc (reservation_bytes u.generation (reservation u.keys u.held)) held.0 (omega (arith, held.1, room version))
done_data version u (ReportCapabilities alloc) formed few = cut_data (most_data version) alloc capabilities_bytes capabilities.0 (omega (arith, capabilities.1, room version))
done_data version u _ formed few = no_data version

-- ---- senses

-- each field is in range
pub record IsSense (s : Sense) : Type 0 where
  pub key : s.key < 16
  pub asc : s.asc < 256
  pub ascq : s.ascq < 256

attention_is : (code : ℕ) → is_attention code ≡ true → IsSense (attention_sense code)
attention_is code is = at (which code is)
  where
    at : (a : Attention) × (code ≡ code_of_attention a) → IsSense (attention_sense code)
    at (PowerOn, same) = record { key = omega arith; asc = omega (arith, same); ascq = omega (arith, same) }
    at (_, same) = record { key = omega arith; asc = omega (arith, same); ascq = omega (arith, same) }

-- records, so that antt finds what they speak of
abbrev pub SenseIfSome : Option Sense → Type 0
SenseIfSome None = Unit {0}
SenseIfSome (Some s) = IsSense s

record Faults (o : Option Sense) : Type 0 where
  senses : SenseIfSome o

abbrev pub SenseWhereRead : Result Request Bad → Type 0
SenseWhereRead (Ok (Plain c)) = Unit {0}
SenseWhereRead (Ok (Faulty s)) = IsSense s
SenseWhereRead (Err bad) = Unit {0}

record Reads (r : Result Request Bad) : Type 0 where
  senses : SenseWhereRead r

one_of : (b : Bool) {x y : Option Sense} → Faults x → Faults y → Faults (if b then x else y)
one_of true p q = p
one_of false p q = q

either : (b : Bool) {x y : Result Request Bad} → Reads x → Reads y → Reads (if b then x else y)
either true p q = p
either false p q = q

no_fault : Faults None
no_fault = record { senses = tt }

a_fault : (asc ascq : ℕ) → asc < 256 → ascq < 256 → Faults (Some (illegal_request asc ascq))
a_fault asc ascq small also = record { senses = record { key = omega arith; asc = small; ascq = also } }

preempt_faults : (kind : Option Kind) (replaces : Bool) → Faults (preempt_fault kind replaces)
preempt_faults kind replaces = one_of _ (a_fault INVALID_FIELD_IN_CDB 0 (omega arith) (omega arith)) no_fault

range_faults : (in_range : Bool) → Faults (range_fault in_range)
range_faults in_range = one_of _ no_fault (a_fault LOGICAL_BLOCK_ADDRESS_OUT_OF_RANGE 0 (omega arith) (omega arith))

faults_by : (u : State) (h : ℕ) (o : Asked) → Faults (conduct u h o).fault
faults_by u h (demand.Read in_range) = range_faults in_range
faults_by u h (demand.Write in_range) = range_faults in_range
faults_by u h (demand.Release kind) = one_of _ (a_fault INVALID_FIELD_IN_PARAMETER_LIST INVALID_RELEASE_OF_PERSISTENT_RESERVATION (omega arith) (omega arith)) no_fault
faults_by u h (demand.PreemptAll kind) = one_of _ (a_fault INVALID_FIELD_IN_PARAMETER_LIST 0 (omega arith) (omega arith)) (preempt_faults kind true)
faults_by u h (demand.Preempt key kind) = preempt_faults kind (is_replacing (preempt_case u.keys u.held key))
faults_by u h demand.Unregister = subst Faults (sym (unregister_fault u h)) no_fault
faults_by u h _ = no_fault

command_faults : (u : State) (h : ℕ) (c : Command) → Faults (command_fault u h c)
command_faults u h c = faults_by u h (demand_of c)

-- ---- what bytes are read as

refused : (asc : ℕ) → asc < 256 → Reads (faulty_request asc)
refused asc small = record { senses = record { key = omega arith; asc = small; ascq = omega arith } }

unread : (bad : Bad) → Reads (Err bad)
unread bad = record { senses = tt }

named : (o : Option Command) → Reads (option_map_or (λ c. plain_request c) o (faulty_request INVALID_FIELD_IN_CDB))
named None = refused INVALID_FIELD_IN_CDB (omega arith)
named (Some c) = record { senses = tt }

reads : (cdb params : List ℕ) → Reads (request_of cdb params)
unfolding request_of
reads cdb params =
    let opcode = slice_index cdb 0 in
    let action = slice_index cdb 1 % 32 in
    let is_sense = opcode == REQUEST_SENSE in
    let is_out = opcode == PERSISTENT_RESERVE_OUT in
    either (length cdb == 0) (unread _) (
    either (opcode == INQUIRY || opcode == REPORT_LUNS) (unread _) (
    either (length_of opcode == 0) (refused _ (omega arith)) (
    either (nat_lt (length cdb) (length_of opcode)) (unread _) (
    either (is_sense && has_flag (slice_index cdb 1) DESC) (refused _ (omega arith)) (
    either (is_sense && nat_lt (slice_index cdb 4) FIXED_SENSE_LENGTH) (unread _) (
    either (is_out && nat_lt REGISTER_AND_IGNORE_EXISTING_KEY action) (refused _ (omega arith)) (
    either (is_out && not (be32 cdb 5 == PARAMETER_LIST_LENGTH)) (refused _ (omega arith)) (
    either (is_out && nat_lt (length params) PARAMETER_LIST_LENGTH) (unread _) (
    either (is_none (named_command cdb params)) (refused _ (omega arith)) (
    either (is_out && has_refused_flag action (slice_index params 20)) (refused _ (omega arith)) (named (named_command cdb params))))))))))))

pub reads_senses : (cdb params : List ℕ) → SenseWhereRead (request_of cdb params)
reads_senses cdb params = (reads cdb params).senses

-- ---- replies

-- a trace of this version has room for the reply
pub record IsReply (version : ℕ) (r : Reply) : Type 0 where
  pub bytes : AreData (most_data version) r.bytes.items
  pub status : IsTrue (has_status version r.status)
  pub sense : HasSense r.status r.sense

-- each status is of version 1 or 2
since_small : (status : Status) → since status ≤ 2
since_small CheckCondition = omega arith
since_small _ = omega arith

module _ (version : ℕ) (there : 1 ≤ version) where
  good_is : (bytes : List ℕ) → AreData (most_data version) bytes → IsReply version (good bytes)
  good_is bytes are = record { bytes = are; status = le-leb 1 version there; sense = tt }

  check_is : (s : Sense) → IsSense s → IsReply version (check s)
  check_is s is = record { bytes = no_data version; status = le-leb 1 version there; sense = (is.key, is.asc, is.ascq) }

  conflict_is : IsReply version conflict
  conflict_is = record { bytes = no_data version; status = le-leb 1 version there; sense = tt }

  pub refused_is : (status : Status) → HasSense status None → 2 ≤ version → IsReply version (refused_with status)
  refused_is status has late = record { bytes = no_data version; status = le-leb (since status) version (let small = since_small status in omega arith); sense = has }

  pub report_is : (q : Request) (code : ℕ) → is_attention code ≡ true → IsReply version (report q code)
  report_is q code is = at (is_request_sense q) (attention_is code is)
    where
      at : (b : Bool) → IsSense (attention_sense code) → IsReply version (if b then good (sense_bytes (attention_sense code)) else check (attention_sense code))
      at true sense = good_is (sense_bytes (attention_sense code)) (record {
        small = data_are_bytes CheckCondition (Some (attention_sense code)) (sense.key, sense.asc, sense.ascq);
        short = omega (arith, data_short (Some (attention_sense code)), room version);
      })
      at false sense = check_is (attention_sense code) sense

  -- what the unit answers
  pub step_is : (u : UnitState) (h : ℕ) (q : Request) (r : Reply) (v : UnitState) → IsWellFormedUnit u → u.registry.hosts ≤ most_declared version → SenseWhereRead (Ok q) → Step u h q r v
      → IsReply version r
  step_is u h q r v formed few read step = at (is_pending u h power_on) (conflicts u.registry h q) (is_any_pending u h) (fault u.registry h q) refl refl refl refl
    where
      is : (x : Reply) → r ≡ x → IsReply version x → IsReply version r
      is x same known = subst (IsReply version) (sym same) known

      fault_is : (q : Request) (o : Option Sense) → SenseWhereRead (Ok q) → fault u.registry h q ≡ o → SenseIfSome o
      fault_is (Plain c) o read same = subst SenseIfSome same (command_faults u.registry h c).senses
      fault_is (Faulty s) o read same = subst SenseIfSome same read

      done : (q : Request) → IsDone u h q r v → IsReply version r
      done (Plain c) step = is (good (data_of u.registry c)) step.0 (good_is (data_of u.registry c) (done_data version u.registry c formed.registry few))
      done (Faulty sense) step = absurd step

      at : (a b any : Bool) (o : Option Sense) → is_pending u h power_on ≡ a → conflicts u.registry h q ≡ b → is_any_pending u h ≡ any → fault u.registry h q ≡ o → IsReply version r
      at true b any o a_is b_is any_is o_is = let s = rw a_is at step in is (report q power_on) s.0 (report_is q power_on refl)
      at false true any o a_is b_is any_is o_is = let s = rw (a_is, b_is) at step in is conflict s.0 conflict_is
      at false false true o a_is b_is any_is o_is =
          let s = rw (any_is, b_is, a_is) at step in
          is (report q s.code) s.reply (report_is q s.code (formed.pending h s.code s.pending).1)
      at false false false (Some sense) a_is b_is any_is o_is = let s = rw (any_is, o_is, b_is, a_is) at step in is (check sense) s.0 (check_is sense (fault_is q (Some sense) read o_is))
      at false false false None a_is b_is any_is o_is = let s = rw (any_is, o_is, b_is, a_is) at step in done q s
