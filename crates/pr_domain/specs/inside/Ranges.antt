-- That the fields of a command are in their ranges has one proof.
use Rattle.std.specs.Coded.{×_prop, Unit-prop, le_prop}
use Rattle.pr_cdb.specs.declared.command.Command.{Command}
use Rattle.pr_cdb.specs.declared.command.Command.TheVariants.{TestUnitReady, RequestSense, Read, Write, Register, Preempt, PreemptAbort}
use Rattle.pr_cdb.specs.Ranges.{Fits}

pub Fits-prop : (c : Command) → IsProp (Fits c)
Fits-prop TestUnitReady = Unit-prop
Fits-prop RequestSense = Unit-prop
Fits-prop (Read lba blocks) = ×_prop le_prop le_prop
Fits-prop (Write lba blocks) = ×_prop le_prop le_prop
Fits-prop (Register rk sark) = ×_prop le_prop le_prop
Fits-prop (Preempt rk sark kind) = ×_prop le_prop le_prop
Fits-prop (PreemptAbort rk sark kind) = ×_prop le_prop le_prop
Fits-prop _ = le_prop
