use Rattle.std.proofs.Common.{refl, arith}
use Rattle.pr_cdb.specs.declared.action.ServiceAction.TheVariants.{ReadKeys, ReadReservation, ReportCapabilities, Register, RegisterIgnore, Reserve, Release, Clear, Preempt, PreemptAbort}
use Rattle.pr_cdb.proofs.laws.each_action_is_listed.Goals as goal

-- each by its place in the list
pub returns : goal.returns
returns c ReadKeys = (0, omega arith, refl)
returns c ReadReservation = (1, omega arith, refl)
returns c ReportCapabilities = (2, omega arith, refl)
returns c Register = (3, omega arith, refl)
returns c RegisterIgnore = (4, omega arith, refl)
returns c Reserve = (5, omega arith, refl)
returns c Release = (6, omega arith, refl)
returns c Clear = (7, omega arith, refl)
returns c Preempt = (8, omega arith, refl)
returns c PreemptAbort = (9, omega arith, refl)
