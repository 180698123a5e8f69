-- Agrees with docs/FORMATS.md, 'Moments'.
-- What `fence never` writes.
use Rattle.std.specs.Prelude.{◌≡◌, ℕ, Bool, true, false, List, [], ◌∷◌, Option, Some, None, IfSome, Result}
use Rattle.std.specs.List.{All, Contains}
use Rattle.pr_roles.specs.Scenarios.{Scenario}
use Rattle.pr_text.specs.Reading.{IsWrittenAs}
use Rattle.pr_audit.specs.declared.end.End.{End}
use Rattle.pr_trace.specs.TraceText.{names_in}
use Rattle.pr_explore.specs.Moments.{NeverIs}
use Rattle.pr_explore.specs.declared.moments.Fact.{Fact}
use Rattle.pr_witness.specs.declared.ending.Sought.{Sought}
use Rattle.pr_witness.specs.declared.ending.Sought.TheVariants.{Found, Never, Nothing}
use Rattle.pr_witness.specs.Moments.{IsMomentSought}
use Rattle.pr_commands.specs.Asked.{exits_of}
use Rattle.pr_commands.specs.Endings.{IsAnswerOf, Outputs}
use Rattle.pr_commands.specs.NeverText.{never_text}
use Rattle.pr_commands.specs.Questions.{question_of}
use Rattle.pr_commands.specs.declared.fault.Fault.{Fault}

-- the words ask for these ends and facts
abbrev pub AskFor : Scenario → List (List ℕ) → List (Option End) → List Fact → Type 0
AskFor s words asked facts = question_of s words ≡ Some (exits_of asked, facts)

-- there is no moment at which all is so for which the words ask
pub record IsNeverAsked (s : Scenario) (words : List (List ℕ)) : Type 0 where
  pub asked : List (Option End)
  pub facts : List Fact
  pub ask : AskFor s words asked facts
  pub never : NeverIs s asked facts

-- some of the words, and by itself each of them is never so
abbrev pub AreUnmet : Scenario → List (List ℕ) → List (List ℕ) → Type 0
AreUnmet s words unmet = All (λ word. Contains words word × IsNeverAsked s (word ∷ [])) unmet

-- what a search came to, and words that are never so
pub record NeverAnswer : Type 0 where
  pub sought : Sought
  pub unmet : List (List ℕ)

-- What it came to, it came to of that for which the words ask. Which words it tells where there is no such moment, those are never
-- so.
pub record Answers (s : Scenario) (words : List (List ℕ)) (a : NeverAnswer) : Type 0 where
  pub asked : List (Option End)
  pub facts : List Fact
  pub ask : AskFor s words asked facts
  pub sought : IsMomentSought s asked facts a.sought
  pub unmet : AreUnmet s words a.unmet

-- that there is such a moment is no, and so it is where nothing is proved
abbrev pub is_no : Sought → Bool
is_no (Found run steps) = true
is_no (Never worlds) = false
is_no (Nothing worlds bound) = true

-- the text is a scenario, and these are the lines of an answer that holds of it
abbrev pub IsNeverOf : List (List ℕ) → List ℕ → List ℕ → Bool → Type 0
IsNeverOf words = IsAnswerOf (λ s answer. Answers s words answer) (λ s answer. never_text (names_in s) words answer.sought answer.unmet) (λ answer. is_no answer.sought)

-- the text is a scenario, of which the words ask for nothing
abbrev pub IsMisasked : List (List ℕ) → List ℕ → Type 0
IsMisasked words text = (s : Scenario) × IsWrittenAs text s × (question_of s words ≡ None)

-- What goes to the output. There is no trace and no thread.
abbrev pub EndsNever : List (List ℕ) → Option (List ℕ) → Option (List ℕ) → Option (List ℕ) → Result Bool Fault → Type 0
EndsNever words known old new r = Outputs (IsNeverOf words) (IfSome known (IsMisasked words)) (λ e. ⊥) (λ name. ⊥) ⊥ known old new r
