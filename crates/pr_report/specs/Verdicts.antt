-- Agrees with docs/FORMATS.md, 'Verdict text'.
-- The line of a verdict: what a check says of a scenario, and an audit of a history.
use Rattle.std.specs.Prelude.{ℕ, Bool, true, false, List, [], ◌∷◌, ◌++◌, codes}
use Rattle.std.specs.Fmt.{decimal}
use Rattle.pr_roles.specs.declared.refusal.Refusal.{Refusal}
use Rattle.pr_roles.specs.declared.refusal.Refusal.TheVariants.{NoArm, OutOfRole, OverBudget, Memory, NotSound}
use Rattle.pr_report.specs.declared.verdict.Verdict.{Verdict}
use Rattle.pr_report.specs.declared.verdict.Verdict.TheVariants.{Accepted, AcceptedBySearch, Refused, Legal, Illegal}
use Rattle.pr_output.specs.PrintedLines.{line, class_word}
use Rattle.pr_trace.specs.TraceText.{name_of}

-- that memory was refused says nothing of the script
abbrev pub IsReason : Refusal → Type 0
IsReason (NoArm host at class) = Unit {0}
IsReason (OutOfRole host at) = Unit {0}
IsReason (OverBudget host cost) = Unit {0}
IsReason Memory = ⊥
IsReason (NotSound host at) = Unit {0}

abbrev pub IsVerdict : Verdict → Type 0
IsVerdict Accepted = Unit {0}
IsVerdict (AcceptedBySearch worlds) = Unit {0}
IsVerdict (Refused refusal) = IsReason refusal
IsVerdict (Legal items) = Unit {0}
IsVerdict (Illegal place) = Unit {0}

-- it answers no
abbrev pub is_refusal : Verdict → Bool
is_refusal Accepted = false
is_refusal (AcceptedBySearch worlds) = false
is_refusal (Refused refusal) = true
is_refusal (Legal items) = false
is_refusal (Illegal place) = true

-- a reason, the host of this name, and the line of its send
abbrev pub place_words : List ℕ → List ℕ → ℕ → List (List ℕ)
place_words reason name at = reason ∷ codes "host" ∷ name ∷ codes "line" ∷ decimal at ∷ []

abbrev pub no_arm_words : List ℕ → ℕ → List ℕ → List (List ℕ)
no_arm_words name at class = place_words (codes "NoArm") name at ++ (codes "reply" ∷ class ∷ [])

abbrev pub over_budget_words : List ℕ → ℕ → List (List ℕ)
over_budget_words name cost = codes "OverBudget" ∷ codes "host" ∷ name ∷ codes "cost" ∷ decimal cost ∷ []

-- the words for a reason; there are none for want of memory
abbrev pub reason_words : List (List ℕ) → Refusal → List (List ℕ)
reason_words names (NoArm host at class) = no_arm_words (name_of names host) at (class_word class)
reason_words names (OutOfRole host at) = place_words (codes "OutOfRole") (name_of names host) at
reason_words names (OverBudget host cost) = over_budget_words (name_of names host) cost
reason_words names Memory = []
reason_words names (NotSound host at) = place_words (codes "NotSound") (name_of names host) at

-- the line with these words after the first
abbrev pub refused_line : List (List ℕ) → List ℕ
refused_line words = line (codes "refused") words

-- in how many worlds nothing breaks
abbrev pub searched_words : ℕ → List (List ℕ)
searched_words worlds = codes "by" ∷ codes "search" ∷ decimal worlds ∷ []

abbrev pub verdict_text : List (List ℕ) → Verdict → List ℕ
verdict_text names Accepted = line (codes "accepted") []
verdict_text names (AcceptedBySearch worlds) = line (codes "accepted") (searched_words worlds)
verdict_text names (Refused refusal) = refused_line (reason_words names refusal)
verdict_text names (Legal items) = line (codes "legal") (decimal items ∷ [])
verdict_text names (Illegal place) = line (codes "illegal") (decimal place ∷ [])
