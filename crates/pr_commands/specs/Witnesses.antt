-- Agrees with docs/FORMATS.md, 'Witnesses'.
-- What `fence witness` writes.
use Rattle.std.specs.Prelude.{ℕ, Bool, true, false, List, [], ◌∷◌, codes, Option, None, Some, Result}
use Rattle.std.specs.Fmt.{decimal}
use Rattle.pr_roles.specs.Scenarios.{Scenario, on_shared_paths}
use Rattle.pr_roles.specs.Safety.{IsSafe}
use Rattle.pr_roles.specs.declared.refusal.Refusal.{Refusal}
use Rattle.pr_verify.specs.Verdicts.{IsFirstReason}
use Rattle.pr_output.specs.PrintedLines.{line}
use Rattle.pr_trace.specs.TraceText.{names_in}
use Rattle.pr_explore.specs.declared.explorer.Bound.{Bound}
use Rattle.pr_explore.specs.declared.explorer.Bound.TheVariants.{Worlds, Depth, Memory}
use Rattle.pr_witness.specs.declared.searching.Finding.{Finding}
use Rattle.pr_witness.specs.declared.searching.Finding.TheVariants.{Found, Safe, Nothing}
use Rattle.pr_witness.specs.Breaches.{IsFound}
use Rattle.pr_commands.specs.WitnessText.{witness_text}
use Rattle.pr_commands.specs.declared.fault.Fault.{Fault}
use Rattle.pr_commands.specs.Endings.{IsAnswerOf, Outputs}

-- the bound that ended a search, if one did
abbrev pub bound_words : Option Bound → List (List ℕ)
bound_words None = []
bound_words (Some Worlds) = codes "worlds" ∷ []
bound_words (Some Depth) = codes "depth" ∷ []
bound_words (Some Memory) = codes "memory" ∷ []

-- the scenario is accepted, so that there is nothing to search for; or it is refused, and was searched
pub data Answer : Type 0 where
  accepted : Answer
  searched : Refusal → Finding → Answer

abbrev pub Holds : Scenario → Answer → Type 0
Holds s accepted = IsSafe (on_shared_paths s)
Holds s (searched refusal search) = IsFirstReason s refusal × IsFound s refusal search

abbrev pub search_text : List (List ℕ) → Finding → List ℕ
search_text names (Found breach is_told) = witness_text names breach is_told
search_text names (Safe worlds) = line (codes "safe") (decimal worlds ∷ [])
search_text names (Nothing worlds bound) = line (codes "none") (decimal worlds ∷ bound_words bound)

abbrev pub answer_text : List (List ℕ) → Answer → List ℕ
answer_text names accepted = line (codes "accepted") []
answer_text names (searched refusal search) = search_text names search

abbrev pub is_unsafe : Finding → Bool
is_unsafe (Found breach is_told) = true
is_unsafe (Safe worlds) = false
is_unsafe (Nothing worlds bound) = true

-- a breach was found, or it isn't proved that there is none
abbrev pub is_no : Answer → Bool
is_no accepted = false
is_no (searched refusal search) = is_unsafe search

-- the text is a scenario, and these are the lines of an answer that holds of it
abbrev pub IsWitnessOf : List ℕ → List ℕ → Bool → Type 0
IsWitnessOf = IsAnswerOf Holds (λ s answer. answer_text (names_in s) answer) is_no

-- What goes to the output. There are no words after the command's name that could be at fault, no trace and no thread.
abbrev pub EndsWitness : Option (List ℕ) → Option (List ℕ) → Option (List ℕ) → Result Bool Fault → Type 0
EndsWitness known old new r = Outputs IsWitnessOf ⊥ (λ e. ⊥) (λ name. ⊥) ⊥ known old new r
