-- Agrees with docs/FORMATS.md, 'Moments'.
-- The text of `fence never`: a run to a moment, that there is none, or the bound that was met.
use Rattle.std.specs.Prelude.{ℕ, List, [], ◌∷◌, ◌++◌, codes}
use Rattle.std.specs.Fmt.{decimal}
use Rattle.std.specs.List.{flat_map}
use Rattle.pr_output.specs.PrintedLines.{line}
use Rattle.pr_witness.specs.declared.breach.CertifiedRun.{CertifiedRun}
use Rattle.pr_witness.specs.declared.ending.Sought.{Sought}
use Rattle.pr_witness.specs.declared.ending.Sought.TheVariants.{Found, Never, Nothing}
use Rattle.pr_commands.specs.EndsText.{bound_line}
use Rattle.pr_commands.specs.WitnessText.{run_text_of}

-- a run in the manner of a witness: the words that are so at its end, and so many steps, as the search counted them
abbrev pub moment_text : List (List ℕ) → List (List ℕ) → CertifiedRun → ℕ → List ℕ
moment_text names words run steps =
    codes "fence-witness 1\nat " ++ (flat_map (λ word. word ++ codes " ") words ++ (line (codes "after") (decimal steps ∷ []) ++ run_text_of names run))

-- by itself this word is never so
abbrev pub unmet_line : List ℕ → List ℕ
unmet_line word = line (codes "unmet") (word ∷ [])

abbrev pub nowhere_text : ℕ → List (List ℕ) → List ℕ
nowhere_text worlds unmet = line (codes "never") (decimal worlds ∷ []) ++ flat_map unmet_line unmet

abbrev pub never_text : List (List ℕ) → List (List ℕ) → Sought → List (List ℕ) → List ℕ
never_text names words (Found run steps) unmet = moment_text names words run steps
never_text names words (Never worlds) unmet = nowhere_text worlds unmet
never_text names words (Nothing worlds bound) unmet = bound_line worlds bound
