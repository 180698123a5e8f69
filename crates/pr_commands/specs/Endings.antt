-- Agrees with docs/FORMATS.md, 'Fault lines and exit statuses'.
-- How a command of the program ends that answers a text: with its answer, which may be a refusal, or with a fault.
use Rattle.std.specs.Prelude.{◌≡◌, ℕ, Bool, if◌then◌else◌, List, [], Option, IfSome, Result, Ok, Err}
use Rattle.std.specs.Borrow.{MutBor}
use Rattle.std.specs.Io.KnownBytes.{Appends, Keeps}
use Rattle.std.specs.declared.io.Read as Read
use Rattle.std.specs.declared.io.Write as Write
use denote.Triple.Both.{Both}
use Rattle.pr_text.specs.declared.fault.ReadError.TheVariants as input
use Rattle.pr_roles.specs.Scenarios.{Scenario}
use Rattle.pr_text.specs.Texts.{answer_of}
use Rattle.pr_text.specs.Reading.{IsWrittenAs}
use Rattle.pr_output.specs.Written.{AppendsFront, FallsShort}
use Rattle.pr_trace.specs.declared.trace_error.TraceError.{TraceError}
use Rattle.pr_commands.specs.declared.fault.Fault.{Fault}
use Rattle.pr_commands.specs.declared.fault.Fault.TheVariants as fault
use Rattle.pr_commands.specs.declared.fault.ExitStatus.{ExitStatus}
use Rattle.pr_commands.specs.declared.fault.ExitStatus.TheVariants as status
use Rattle.pr_commands.specs.FaultText.{fault_text, status_of}

-- The text is a scenario, and these are the lines of an answer that holds of it, and whether the answer is a refusal.
pub record IsAnswerOf {A : Type 0} (Holds : Scenario → A → Type 0) (lines_of : Scenario → A → List ℕ) (is_refusal : A → Bool) (text lines : List ℕ) (refused : Bool) : Type 0 where
  pub scenario : Scenario
  pub read : IsWrittenAs text scenario
  pub answer : A
  pub holds : Holds scenario answer
  pub lines_are : lines ≡ lines_of scenario answer
  pub refused_is : refused ≡ is_refusal answer

-- What goes to the output, by how the command ends: over a text that is known, the whole answer and nothing else, or a
-- front of it, or nothing. A reader or memory may fail on any text. `Answers` says which answer a text has, and whether
-- it is a refusal; `Misused`, that the words after the command's name are at fault; `Untraced`, that a trace has this fault;
-- `Unstarted`, that this is the name of one whose thread was not started; `Differs`, that a run's history may be at fault.
abbrev pub Outputs : (List ℕ → List ℕ → Bool → Type 0) → Type 0 → (TraceError → Type 0) → (List ℕ → Type 0) → Type 0 → Option (List ℕ) → Option (List ℕ) → Option (List ℕ) → Result Bool Fault → Type 0
Outputs Answers Misused Untraced Unstarted Differs known old new (Ok refused) =
    IfSome known (λ text. (answer : List ℕ) × Answers text answer refused × Appends old new answer)
Outputs Answers Misused Untraced Unstarted Differs known old new (Err fault.Output) =
    IfSome known (λ text. (answer : List ℕ) × (refused : Bool) × Answers text answer refused × FallsShort old new answer)
Outputs Answers Misused Untraced Unstarted Differs known old new (Err fault.Memory) = Keeps old new
Outputs Answers Misused Untraced Unstarted Differs known old new (Err fault.Usage) = Misused × Keeps old new
Outputs Answers Misused Untraced Unstarted Differs known old new (Err (fault.Input input.ReadFault)) = Keeps old new
Outputs Answers Misused Untraced Unstarted Differs known old new (Err (fault.Input e)) = IfSome known (λ text. answer_of text ≡ Err e) × Keeps old new
Outputs Answers Misused Untraced Unstarted Differs known old new (Err (fault.Trace e)) = Untraced e × Keeps old new
Outputs Answers Misused Untraced Unstarted Differs known old new (Err (fault.Thread name)) = Unstarted name.bytes × Keeps old new
Outputs Answers Misused Untraced Unstarted Differs known old new (Err fault.History) = Differs × Keeps old new
Outputs Answers Misused Untraced Unstarted Differs known old new (Err fault.File) = ⊥

-- A fault that a command may tell of: a reader and memory may fail on any text, and a text that is known has its own fault.
-- `Unwritten` says that the writer may fail, and what else there can be is given as for the output.
abbrev pub IsFault : Type 0 → (TraceError → Type 0) → (List ℕ → Type 0) → Type 0 → Type 0 → Option (List ℕ) → Fault → Type 0
IsFault Misused Untraced Unstarted Differs Unwritten known fault.Usage = Misused
IsFault Misused Untraced Unstarted Differs Unwritten known fault.File = ⊥
IsFault Misused Untraced Unstarted Differs Unwritten known (fault.Input input.ReadFault) = Unit {0}
IsFault Misused Untraced Unstarted Differs Unwritten known (fault.Input e) = IfSome known (λ text. answer_of text ≡ Err e)
IsFault Misused Untraced Unstarted Differs Unwritten known (fault.Trace e) = Untraced e
IsFault Misused Untraced Unstarted Differs Unwritten known (fault.Thread name) = Unstarted name.bytes
IsFault Misused Untraced Unstarted Differs Unwritten known fault.History = Differs
IsFault Misused Untraced Unstarted Differs Unwritten known fault.Memory = Unit {0}
IsFault Misused Untraced Unstarted Differs Unwritten known fault.Output = Unwritten

abbrev pub status_of_end : Result Bool Fault → ExitStatus
status_of_end (Ok refused) = if refused then status.Refused else status.Done
status_of_end (Err f) = status_of f

-- what is told of a fault
abbrev pub told_of_end : Result Bool Fault → List ℕ
told_of_end (Ok refused) = []
told_of_end (Err f) = fault_text f

-- the command's end, the line on its error output, of which the end may be missing, and its status
pub record IsCommand (Ends : Result Bool Fault → Type 0) (old_errors new_errors : Option (List ℕ)) (answer : ExitStatus) : Type 0 where
  pub end : Result Bool Fault
  pub ends : Ends end
  pub tells : AppendsFront old_errors new_errors (told_of_end end)
  pub answers : answer ≡ status_of_end end

-- A call, with its reader as it was and as it is: nothing of that is taken.
abbrev pub IsUnread : {A : Type 0} → Read.Ghosts A → Both (MutBor A) (MutBor A) → Type 0
IsUnread reads reader = Keeps (reads.remaining reader.entry.now) (reads.remaining reader.exit.now)

-- A call, with its error writer as it was and as it is: it is a command that ends so.
abbrev pub IsCommandOn : {A : Type 0} → Write.Ghosts A → Both (MutBor A) (MutBor A) → (Result Bool Fault → Type 0) → ExitStatus → Type 0
IsCommandOn tells errors Ends answer = IsCommand Ends (tells.contents errors.entry.now) (tells.contents errors.exit.now) answer

-- A call, with its reader and its writer as they were and as they are: it ends so, of what the one had and of what the other took.
abbrev pub EndsOver : {A B : Type 0} → Read.Ghosts A → Both (MutBor A) (MutBor A) → Write.Ghosts B → Both (MutBor B) (MutBor B)
    → (Option (List ℕ) → Option (List ℕ) → Option (List ℕ) → Result Bool Fault → Type 0) → Result Bool Fault → Type 0
EndsOver reads reader writes writer Ends result =
    Ends (reads.remaining reader.entry.now) (writes.contents writer.entry.now) (writes.contents writer.exit.now) result

-- With its error writer too: it is a command that ends so.
abbrev pub IsCommandOver : {A B C : Type 0} → Read.Ghosts A → Both (MutBor A) (MutBor A) → Write.Ghosts B → Both (MutBor B) (MutBor B)
    → Write.Ghosts C → Both (MutBor C) (MutBor C)
    → (Option (List ℕ) → Option (List ℕ) → Option (List ℕ) → Result Bool Fault → Type 0) → ExitStatus → Type 0
IsCommandOver reads reader writes writer tells errors Ends answer =
    IsCommandOn tells errors (EndsOver reads reader writes writer Ends) answer
