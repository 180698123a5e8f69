-- What is written of a command is read as that command.
use Rattle.std.proofs.Common.{◌≡◌, Option, Some, None, refl}
use Rattle.std.proofs.lemmas.Nat.{from_be_bytes-to_be_bytes_2, from_be_bytes-to_be_bytes_4, from_be_bytes-to_be_bytes_8}
use Rattle.pr_cdb.specs.declared.command.Kind.{Kind}
use Rattle.pr_cdb.specs.declared.command.Kind.TheVariants.{WriteExclusive}
use Rattle.pr_cdb.specs.declared.command.Command.{Command}
use Rattle.pr_cdb.specs.declared.command.Command.TheVariants.{Read, Write, ReadKeys, ReadReservation, ReportCapabilities, Register, RegisterIgnore, Reserve, Release, Clear, Preempt, PreemptAbort}
use Rattle.pr_cdb.specs.Kinds.{type_code, kind_of_code}
use Rattle.pr_cdb.specs.Bytes.{be16, be32, be64}
use Rattle.pr_cdb.specs.Requests.{request_of, named_command, reserve_out_command, kind_of_byte, length_of, has_refused_flag, plain_request, request_of_wire}
use Rattle.pr_cdb.specs.Ranges.{Fits}
use Rattle.pr_cdb.specs.Spelling.{spelling, kind_byte}

kind_of_byte-code_of : (k : Kind) → kind_of_byte (type_code k) ≡ Some k
unfolding kind_of_byte kind_of_code
kind_of_byte-code_of WriteExclusive = refl
kind_of_byte-code_of _ = refl

kind_of_byte-kind_byte : (kind : Option Kind) → kind_of_byte (kind_byte kind) ≡ kind
unfolding kind_of_byte kind_of_code
kind_of_byte-kind_byte None = refl
kind_of_byte-kind_byte (Some k) = kind_of_byte-code_of k

pub written_is_read : (c : Command) → Fits c → request_of_wire (spelling c) ≡ plain_request c
unfolding request_of named_command reserve_out_command length_of has_refused_flag be16 be32 be64 spelling
written_is_read (Read lba blocks) fits = rw (from_be_bytes-to_be_bytes_4 lba fits.0, from_be_bytes-to_be_bytes_2 blocks fits.1) refl
written_is_read (Write lba blocks) fits = rw (from_be_bytes-to_be_bytes_4 lba fits.0, from_be_bytes-to_be_bytes_2 blocks fits.1) refl
written_is_read (ReadKeys alloc) fits = rw (from_be_bytes-to_be_bytes_2 alloc fits) refl
written_is_read (ReadReservation alloc) fits = rw (from_be_bytes-to_be_bytes_2 alloc fits) refl
written_is_read (ReportCapabilities alloc) fits = rw (from_be_bytes-to_be_bytes_2 alloc fits) refl
written_is_read (Register rk sark) fits = rw (from_be_bytes-to_be_bytes_8 rk fits.0, from_be_bytes-to_be_bytes_8 sark fits.1) refl
written_is_read (RegisterIgnore sark) fits = rw (from_be_bytes-to_be_bytes_8 sark fits) refl
written_is_read (Reserve rk kind) fits = rw (kind_of_byte-code_of kind, from_be_bytes-to_be_bytes_8 rk fits) refl
written_is_read (Release rk kind) fits = rw (kind_of_byte-code_of kind, from_be_bytes-to_be_bytes_8 rk fits) refl
written_is_read (Clear rk) fits = rw (from_be_bytes-to_be_bytes_8 rk fits) refl
written_is_read (Preempt rk sark kind) fits = rw (kind_of_byte-kind_byte kind, from_be_bytes-to_be_bytes_8 rk fits.0, from_be_bytes-to_be_bytes_8 sark fits.1) refl
written_is_read (PreemptAbort rk sark kind) fits = rw (kind_of_byte-kind_byte kind, from_be_bytes-to_be_bytes_8 rk fits.0, from_be_bytes-to_be_bytes_8 sark fits.1) refl
written_is_read _ fits = refl
