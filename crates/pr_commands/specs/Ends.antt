-- Agrees with docs/FORMATS.md, 'Ends'.
-- What `fence ends` writes.
use Rattle.std.specs.Prelude.{◌≡◌, ℕ, Bool, true, false, not, List, [], ◌∷◌, Option, Some, None, IfSome, Result}
use Rattle.pr_roles.specs.Scenarios.{Scenario}
use Rattle.pr_text.specs.Reading.{IsWrittenAs}
use Rattle.pr_audit.specs.declared.end.End.{End}
use Rattle.pr_trace.specs.TraceText.{names_in}
use Rattle.pr_witness.specs.declared.ending.Ends.{Ends}
use Rattle.pr_witness.specs.declared.ending.Sought.{Sought}
use Rattle.pr_witness.specs.declared.ending.Sought.TheVariants.{Found, Never, Nothing}
use Rattle.pr_witness.specs.Ends.{AreEnds, IsSought}
use Rattle.pr_commands.specs.Asked.{asks_of, exits_of}
use Rattle.pr_commands.specs.EndsText.{ends_text, sought_text}
use Rattle.pr_commands.specs.declared.fault.Fault.{Fault}
use Rattle.pr_commands.specs.Endings.{IsAnswerOf, Outputs}

-- all ends that come together, or a run that comes to those that are asked for
pub data EndsAnswer : Type 0 where
  listed : Ends → EndsAnswer
  sought : List (Option End) → Sought → EndsAnswer

-- where no word stands behind the text, all; else what the words ask for
abbrev pub Answers : Scenario → List (List ℕ) → EndsAnswer → Type 0
Answers s [] (listed ends) = AreEnds s ends
Answers s [] (sought asked found) = ⊥
Answers s (word ∷ words) (listed ends) = ⊥
Answers s (word ∷ words) (sought asked found) = (asks_of s (word ∷ words) ≡ Some (exits_of asked)) × IsSought s asked found

abbrev pub answer_text : List (List ℕ) → EndsAnswer → List ℕ
answer_text names (listed ends) = ends_text names ends
answer_text names (sought asked found) = sought_text names found

-- that a run ends so is no, and so it is where nothing is proved
abbrev pub is_no : EndsAnswer → Bool
is_no (listed ends) = not ends.are_all
is_no (sought asked (Found run steps)) = true
is_no (sought asked (Never worlds)) = false
is_no (sought asked (Nothing worlds bound)) = true

-- the text is a scenario, and these are the lines of an answer that holds of it
abbrev pub AreEndsOf : List (List ℕ) → List ℕ → List ℕ → Bool → Type 0
AreEndsOf words = IsAnswerOf (λ s answer. Answers s words answer) (λ s answer. answer_text (names_in s) answer) is_no

-- the text is a scenario, of which the words ask for nothing
abbrev pub IsMisasked : List (List ℕ) → List ℕ → Type 0
IsMisasked words text = (s : Scenario) × IsWrittenAs text s × (asks_of s words ≡ None)

-- What goes to the output. There is no trace and no thread.
abbrev pub EndsEnds : List (List ℕ) → Option (List ℕ) → Option (List ℕ) → Option (List ℕ) → Result Bool Fault → Type 0
EndsEnds words known old new r = Outputs (AreEndsOf words) (IfSome known (IsMisasked words)) (λ e. ⊥) (λ name. ⊥) ⊥ known old new r
