-- Agrees with SPC-4, 'PERSISTENT RESERVE IN command', 'PERSISTENT RESERVE OUT command'; SBC-3, 'READ (10) command'.
-- The ranges of a command's fields.
use Rattle.std.specs.Prelude.{◌<◌, ◌^◌, Result, Ok, Err}
use Rattle.pr_cdb.specs.declared.command.Command.{Command}
use Rattle.pr_cdb.specs.declared.command.Command.TheVariants.{TestUnitReady, RequestSense, Read, Write, ReadKeys, ReadReservation, ReportCapabilities, Register, RegisterIgnore, Reserve, Release, Clear, Preempt, PreemptAbort}
use Rattle.pr_cdb.specs.declared.wire.Request.{Request}
use Rattle.pr_cdb.specs.declared.wire.Request.TheVariants.{Plain, Faulty}
use Rattle.pr_cdb.specs.declared.wire.Bad.{Bad}

-- each field of the command is in its type's range
abbrev pub Fits : Command → Type 0
Fits TestUnitReady = Unit {0}
Fits RequestSense = Unit {0}
Fits (Read lba blocks) = (lba < 2 ^ 32) × (blocks < 2 ^ 16)
Fits (Write lba blocks) = (lba < 2 ^ 32) × (blocks < 2 ^ 16)
Fits (ReadKeys alloc) = alloc < 2 ^ 16
Fits (ReadReservation alloc) = alloc < 2 ^ 16
Fits (ReportCapabilities alloc) = alloc < 2 ^ 16
Fits (Register rk sark) = (rk < 2 ^ 64) × (sark < 2 ^ 64)
Fits (RegisterIgnore sark) = sark < 2 ^ 64
Fits (Reserve rk kind) = rk < 2 ^ 64
Fits (Release rk kind) = rk < 2 ^ 64
Fits (Clear rk) = rk < 2 ^ 64
Fits (Preempt rk sark kind) = (rk < 2 ^ 64) × (sark < 2 ^ 64)
Fits (PreemptAbort rk sark kind) = (rk < 2 ^ 64) × (sark < 2 ^ 64)

-- a command that is read has its fields in range
abbrev pub FitsWhereRead : Result Request Bad → Type 0
FitsWhereRead (Ok (Plain c)) = Fits c
FitsWhereRead (Ok (Faulty sense)) = Unit {0}
FitsWhereRead (Err bad) = Unit {0}
