-- Agrees with docs/FORMATS.md, 'Outlines'.
-- What `fence outline` writes.
use Rattle.std.specs.Prelude.{ℕ, Bool, false, List, Option, Result}
use Rattle.pr_verify.specs.Tables.{AreTables}
use Rattle.pr_trace.specs.TraceText.{names_in}
use Rattle.pr_report.specs.OutlineText.{outlines_text}
use Rattle.pr_commands.specs.declared.fault.Fault.{Fault}
use Rattle.pr_commands.specs.Endings.{IsAnswerOf, Outputs}

-- The text is a scenario, and these are its tables, of the least sound outline of each of its hosts. That is no verdict, so
-- nothing is refused.
abbrev pub IsOutlineOf : List ℕ → List ℕ → Bool → Type 0
IsOutlineOf = IsAnswerOf AreTables (λ s tables. outlines_text (names_in s) tables) (λ tables. false)

-- What goes to the output. There are no words after the command's name that could be at fault, no trace and no thread.
abbrev pub EndsOutline : Option (List ℕ) → Option (List ℕ) → Option (List ℕ) → Result Bool Fault → Type 0
EndsOutline known old new r = Outputs IsOutlineOf ⊥ (λ e. ⊥) (λ name. ⊥) ⊥ known old new r
