-- Agrees with SPC-4, 'PERSISTENT RESERVE IN command', 'PERSISTENT RESERVE OUT command'; docs/FORMATS.md, 'COMMAND'.
-- What service actions are called, and the fields that count for each.
use Rattle.std.specs.Prelude.{ℕ, Bool, true, false, List, [], ◌∷◌, codes}
use Rattle.std.specs.List.{Contains, list_any}
use Rattle.pr_cdb.specs.declared.action.Direction.{Direction}
use Rattle.pr_cdb.specs.declared.action.Direction.TheVariants.{In, Out}
use Rattle.pr_cdb.specs.declared.action.Field.{Field}
use Rattle.pr_cdb.specs.declared.action.Field.TheVariants.{Rk, Sark, Kind}
use Rattle.pr_cdb.specs.declared.action.ServiceAction.{ServiceAction}
use Rattle.pr_cdb.specs.declared.action.TheConstants.ServiceAction.{ALL}
use Rattle.pr_cdb.specs.declared.action.ServiceAction.TheVariants.{ReadKeys, ReadReservation, ReportCapabilities, Register, RegisterIgnore, Reserve, Release, Clear, Preempt, PreemptAbort}

-- of a service action: where its data goes, the option that names it as in the manual of `sg_persist`, what the standard calls it,
-- and the fields that count for it
pub record ActionFacts : Type 0 where
  pub direction : Direction
  pub option : List ℕ
  pub name : List ℕ
  pub fields : List Field

abbrev pub reads : List ℕ → List ℕ → ActionFacts
reads option name = record { direction = In; option = option; name = name; fields = [] }

abbrev pub writes : List ℕ → List ℕ → List Field → ActionFacts
writes option name fields = record { direction = Out; option = option; name = name; fields = fields }

abbrev pub row_of : ServiceAction → ActionFacts
row_of ReadKeys = reads (codes "--read-keys") (codes "READ KEYS")
row_of ReadReservation = reads (codes "--read-reservation") (codes "READ RESERVATION")
row_of ReportCapabilities = reads (codes "--report-capabilities") (codes "REPORT CAPABILITIES")
row_of Register = writes (codes "--register") (codes "REGISTER") (Rk ∷ Sark ∷ [])
row_of RegisterIgnore = writes (codes "--register-ignore") (codes "REGISTER AND IGNORE EXISTING KEY") (Sark ∷ [])
row_of Reserve = writes (codes "--reserve") (codes "RESERVE") (Rk ∷ Kind ∷ [])
row_of Release = writes (codes "--release") (codes "RELEASE") (Rk ∷ Kind ∷ [])
row_of Clear = writes (codes "--clear") (codes "CLEAR") (Rk ∷ [])
row_of Preempt = writes (codes "--preempt") (codes "PREEMPT") (Rk ∷ Sark ∷ Kind ∷ [])
row_of PreemptAbort = writes (codes "--preempt-abort") (codes "PREEMPT AND ABORT") (Rk ∷ Sark ∷ Kind ∷ [])

-- a type counts
abbrev pub has_type : List Field → Bool
has_type fields = list_any is_type fields
  where
    is_type : Field → Bool
    is_type Rk = false
    is_type Sark = false
    is_type Kind = true

-- the list by which the option of a service action is looked up has each of them
abbrev pub EachActionIsListed : Type 0
EachActionIsListed = (action : ServiceAction) → Contains ALL action
