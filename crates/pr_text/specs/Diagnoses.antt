-- Agrees with docs/FORMATS.md, 'Explaining'.
-- What is promised of a fault that is told with what the reader knows of it: the fault alone.
use Rattle.std.specs.Prelude.{Result, Ok, Err}
use Rattle.pr_text.specs.declared.fault.ReadError.{ReadError}
use Rattle.pr_text.specs.declared.diagnosis.Diagnosis.{Diagnosis}

-- the same, where a fault is told alone
abbrev pub fault_alone : {A : Type 0} → Result A Diagnosis → Result A ReadError
fault_alone (Ok a) = Ok a
fault_alone (Err d) = Err d.error
