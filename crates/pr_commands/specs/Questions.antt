-- Agrees with docs/FORMATS.md, 'Moments'.
-- The question of `fence never`: the ends and the facts for which its words ask.
use Rattle.std.specs.Prelude.{ℕ, ◌==◌, ◌||◌, Bool, not, nat_lt, if◌then◌else◌, List, length, filter, Option, None, is_some, option_map, option_and_then}
use Rattle.std.specs.List.{position}
use Rattle.pr_roles.specs.Fitting.{are_distinct}
use Rattle.pr_roles.specs.Scenarios.{Scenario}
use Rattle.pr_trace.specs.TraceText.{names_in}
use Rattle.pr_explore.specs.Exits.{Exit}
use Rattle.pr_explore.specs.declared.moments.Fact.{Fact}
use Rattle.pr_commands.specs.Asked.{asks_of}
use Rattle.pr_commands.specs.Facts.{are_of_the_same, facts_of}
use Rattle.pr_commands.specs.declared.asked.TheConstants.{EQUALS}
use Rattle.pr_commands.specs.declared.questions.TheConstants.{MOST_FACTS}

-- of each nexus the end that is asked for, if one is, and the facts
abbrev pub Question : Type 0
Question = List (Option Exit) × List Fact

-- an end is asked for by a word with an equals sign
abbrev pub has_equals : List ℕ → Bool
has_equals word = is_some (position (λ b. b == EQUALS) word)

-- the ends for which the words ask, beside these facts, no two of which are of the same
abbrev pub question_with : Scenario → List (List ℕ) → List Fact → Option Question
question_with s words facts =
    if are_distinct are_of_the_same facts then option_map (λ asked. (asked, facts)) (asks_of s (filter has_equals words)) else None

-- none, or more than there may be
abbrev pub has_wrong_count : List (List ℕ) → Bool
has_wrong_count words = length words == 0 || nat_lt MOST_FACTS (length words)

abbrev pub question_of : Scenario → List (List ℕ) → Option Question
question_of s words =
    if has_wrong_count words then None else
    option_and_then (question_with s words) (facts_of (names_in s) (filter (λ w. not (has_equals w)) words))
