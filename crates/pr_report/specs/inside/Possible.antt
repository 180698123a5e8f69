-- The words of what is possible.
use Rattle.std.specs.Prelude.{ℕ, Bool, if◌then◌else◌, List, [], ◌∷◌, map, Option}
use Rattle.pr_registry.specs.declared.held.Held.{Held}
use Rattle.pr_views.specs.Views.{View}
use Rattle.pr_output.specs.PrintedLines.{joined_by_spaces}
use Rattle.pr_trace.specs.TraceText.{held_word}
use Rattle.pr_report.specs.OutlineText.{possible_of}

-- this word, if what it names is possible
abbrev pub word_if : Bool → List ℕ → List (List ℕ)
word_if is_possible word = if is_possible then word ∷ [] else []

-- those of the reservations that a view shows as possible, each after a space
abbrev pub possible_words : List (List ℕ) → View → List (Option Held) → List ℕ
possible_words names v helds = joined_by_spaces (map (held_word names) (possible_of v helds))
