-- Agrees with docs/FORMATS.md, 'Auditing'.
-- What `fence audit` writes.
use Rattle.std.specs.Prelude.{◌≡◌, ℕ, Bool, List, length, Option, Some, IfSome, Result, Ok, Err}
use Rattle.std.specs.Borrow.{MutBor}
use Rattle.std.specs.Io.KnownBytes.{Keeps}
use Rattle.std.specs.declared.io.Read as Read
use denote.Triple.Both.{Both}
use Rattle.pr_roles.specs.declared.item.Item.{Item}
use Rattle.pr_roles.specs.Scenarios.{Scenario}
use Rattle.pr_text.specs.declared.fault.ReadError.{ReadError}
use Rattle.pr_text.specs.Reading.{IsWrittenAs}
use Rattle.pr_audit.specs.Audits.{IsLegalFromFirst, IsFirstIllegal}
use Rattle.pr_trace.specs.declared.trace_error.TraceError.{TraceError}
use Rattle.pr_report.specs.declared.verdict.Verdict.{Verdict}
use Rattle.pr_report.specs.declared.verdict.Verdict.TheVariants.{Accepted, AcceptedBySearch, Refused, Legal, Illegal}
use Rattle.pr_trace.specs.BytesTaken.{LosesUpTo, most_of_trace, most_of_any_trace}
use Rattle.pr_trace.specs.TraceReadings.{Faults, trace_of}
use Rattle.pr_trace.specs.TraceText.{names_in}
use Rattle.pr_report.specs.Verdicts.{is_refusal, verdict_text}
use Rattle.pr_commands.specs.declared.fault.Fault.{Fault}
use Rattle.pr_commands.specs.declared.fault.Fault.TheVariants as fault
use Rattle.pr_commands.specs.Endings.{IsAnswerOf, Outputs}

-- The whole history is legal from the first start, and so long; or the item at this place is the first that isn't. Of the
-- scenario itself an audit says nothing.
abbrev pub Holds : Verdict → Scenario → List Item → Type 0
Holds Accepted s history = ⊥
Holds (AcceptedBySearch worlds) s history = ⊥
Holds (Refused reason) s history = ⊥
Holds (Legal items) s history = IsLegalFromFirst s history × (items ≡ length history)
Holds (Illegal place) s history = IsFirstIllegal s history place

-- the trace is read as a history under the scenario's names, and the verdict holds of it
abbrev pub HoldsOfTrace : List ℕ → Scenario → Verdict → Type 0
HoldsOfTrace trace s verdict = (history : List Item) × (trace_of s.version (names_in s) trace ≡ Ok history) × Holds verdict s history

-- the text is a scenario, and this is the line of a verdict that holds of it and the trace
abbrev pub IsAuditOf : List ℕ → List ℕ → List ℕ → Bool → Type 0
IsAuditOf trace = IsAnswerOf (HoldsOfTrace trace) (λ s verdict. verdict_text (names_in s) verdict) is_refusal

-- the text is a scenario, and under its names the trace has this fault
pub record IsTraceFault (text trace : List ℕ) (error : TraceError) : Type 0 where
  pub scenario : Scenario
  pub read : IsWrittenAs text scenario
  pub faulty : Faults error (trace_of scenario.version (names_in scenario) trace)

-- What is taken of a trace: where the text is known and a scenario, as much at most as a trace of its version has, and never
-- more than one of any version.
pub record TakesOfTrace (text old new : Option (List ℕ)) : Type 0 where
  pub limited : LosesUpTo most_of_any_trace old new
  pub dated : (known : List ℕ) (s : Scenario) → text ≡ Some known → IsWrittenAs known s → LosesUpTo (most_of_trace s.version) old new

-- What goes to the output, where it is known what the two readers have. There are no words after the command's name that
-- could be at fault. Where the text is at fault, the trace is not read.
pub record EndsAudit (text trace trace_left old new : Option (List ℕ)) (r : Result Bool Fault) : Type 0 where
  pub outputs : Outputs (λ known answer refused. IfSome trace (λ t. IsAuditOf t known answer refused)) ⊥
      (λ e. IfSome text (λ known. IfSome trace (λ t. IsTraceFault known t e))) (λ name. ⊥) ⊥ text old new r
  pub unread : (e : ReadError) → r ≡ Err (fault.Input e) → Keeps trace trace_left

-- A call, with the reader of a trace as it was and as it is: it ends as an audit of that trace.
abbrev pub EndsAuditOf : {A : Type 0} → Read.Ghosts A → Both (MutBor A) (MutBor A) → Option (List ℕ) → Option (List ℕ) → Option (List ℕ)
    → Result Bool Fault → Type 0
EndsAuditOf traces trace known old new r =
    EndsAudit known (traces.remaining trace.entry.now) (traces.remaining trace.exit.now) old new r

-- With that of a text too: so much is taken of the trace.
abbrev pub TakesTraceUnder : {A B : Type 0} → Read.Ghosts A → Both (MutBor A) (MutBor A) → Read.Ghosts B → Both (MutBor B) (MutBor B)
    → Type 0
TakesTraceUnder traces trace reads reader =
    TakesOfTrace (reads.remaining reader.entry.now) (traces.remaining trace.entry.now) (traces.remaining trace.exit.now)
