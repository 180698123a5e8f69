-- Agrees with SAM-5, 'Status'; docs/FORMATS.md, 'Reply bytes'.
-- What the logical unit answers (SAM-5, 'Status').
use Rattle.std.specs.Prelude.{ℕ, Bool, false, ◌==◌, if◌then◌else◌, List, [], Option, Some, None, unwrap_or}
use Rattle.std.specs.FinMap as map
use Rattle.pr_cdb.specs.declared.codes.TheConstants.{REQUEST_SENSE, NO_SENSE, NO_ADDITIONAL_SENSE_INFORMATION}
use Rattle.pr_cdb.specs.declared.command.Kind.{Kind}
use Rattle.pr_cdb.specs.declared.command.Command.{Command}
use Rattle.pr_cdb.specs.declared.command.Command.TheVariants.{TestUnitReady, RequestSense, Read, Write, ReadKeys, ReadReservation, ReportCapabilities, Register, RegisterIgnore, Reserve, Release, Clear, Preempt, PreemptAbort}
use Rattle.pr_cdb.specs.declared.reply.Sense.{Sense}
use Rattle.pr_cdb.specs.declared.reply.Status.{Status}
use Rattle.pr_cdb.specs.declared.reply.Status.TheVariants.{Good, CheckCondition, Conflict}
use Rattle.pr_cdb.specs.declared.reply.Reply.{Reply}
use Rattle.pr_cdb.specs.declared.wire.Request.{Request}
use Rattle.pr_cdb.specs.declared.wire.Request.TheVariants.{Plain, Faulty}
use Rattle.pr_cdb.specs.Spelling.{operation_code}
use Rattle.pr_cdb.specs.Statuses.{is_good_status}
use Rattle.pr_cdb.specs.ReplyData.{sense_bytes, keys_bytes, reservation_bytes, capabilities_bytes, cut}
use Rattle.pr_registry.specs.declared.held.Held.{Held}
use Rattle.pr_registry.specs.declared.held.Held.TheVariants.{One, All}
use Rattle.pr_registry.specs.Hosts.{Keys}
use Rattle.pr_registry.specs.Registrations.{State}
use Rattle.pr_unit.specs.Attentions.{attention_sense}

abbrev pub reply_of : Status → Option Sense → List ℕ → Reply
reply_of status sense bytes = record { status = status; sense = sense; bytes = record { items = bytes } }

abbrev pub good : List ℕ → Reply
good bytes = reply_of Good None bytes

abbrev pub check : Sense → Reply
check sense = reply_of CheckCondition (Some sense) []

abbrev pub conflict : Reply
conflict = reply_of Conflict None []

-- a refusal with this status, BUSY or TASK SET FULL, that the command has no part in and that leaves the unit as it is
abbrev pub refused_with : Status → Reply
refused_with status = reply_of status None []

abbrev pub is_good : Reply → Bool
is_good r = is_good_status r.status

-- REQUEST SENSE reports as data, and ends GOOD
abbrev pub is_request_sense : Request → Bool
is_request_sense (Plain c) = operation_code c == REQUEST_SENSE
is_request_sense (Faulty sense) = false

-- the reply that reports this attention
abbrev pub report : Request → ℕ → Reply
report q code = if is_request_sense q then good (sense_bytes (attention_sense code)) else check (attention_sense code)

-- the key and the type of the reservation: the holder's key, or zero where all registrants hold
abbrev pub reservation : Keys → Option Held → Option (ℕ × Kind)
reservation keys None = None
reservation keys (Some (One t g)) = Some (unwrap_or (map.get keys g) 0, t)
reservation keys (Some (All t)) = Some (0, t)

-- the data of a command that ends GOOD: of the keys in the order of the hosts
abbrev pub data_of : State → Command → List ℕ
data_of u TestUnitReady = []
data_of u RequestSense = sense_bytes (record { key = NO_SENSE; asc = NO_ADDITIONAL_SENSE_INFORMATION; ascq = 0 })
data_of u (Read lba blocks) = []
data_of u (Write lba blocks) = []
data_of u (ReadKeys alloc) = cut alloc (keys_bytes u.generation (map.values u.keys))
data_of u (ReadReservation alloc) = cut alloc (reservation_bytes u.generation (reservation u.keys u.held))
data_of u (ReportCapabilities alloc) = cut alloc capabilities_bytes
data_of u (Register rk sark) = []
data_of u (RegisterIgnore sark) = []
data_of u (Reserve rk kind) = []
data_of u (Release rk kind) = []
data_of u (Clear rk) = []
data_of u (Preempt rk sark kind) = []
data_of u (PreemptAbort rk sark kind) = []
