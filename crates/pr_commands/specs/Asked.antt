-- Agrees with docs/FORMATS.md, 'Ends'.
-- The ends that are asked for: NAME=WORD, or NAME=trapped:LINE.
use Rattle.std.specs.Prelude.{ℕ, ◌+◌, ◌==◌, ◌&&◌, Bool, true, false, if◌then◌else◌, List, [], ◌∷◌, length, take, drop, codes, map, replicate, slice_index_or, slice_set, Option, Some, None, option_map, option_and_then}
use Rattle.std.specs.List.{position}
use Rattle.pr_roles.specs.Scenarios.{Scenario, task}
use Rattle.pr_audit.specs.declared.end.End.{End}
use Rattle.pr_lines.specs.WordTerms.{amount_of, name_of, value_after}
use Rattle.pr_trace.specs.TraceReadings.{number_of}
use Rattle.pr_trace.specs.TraceText.{names_in}
use Rattle.pr_explore.specs.Exits.{Exit, ExitsTrapped, ExitsWith}
use Rattle.pr_explore.specs.Together.{exit_in}
use Rattle.pr_commands.specs.Sayings.{may_end_so}
use Rattle.pr_commands.specs.declared.asked.TheConstants.{EQUALS, MOST_LINE}

-- a word with which a script stops, or the line of the send at which it is trapped
abbrev pub exit_by : List ℕ → Option (List ℕ) → Option Exit
exit_by word None = option_map ExitsWith (name_of word)
exit_by word (Some digits) = option_map ExitsTrapped (amount_of MOST_LINE digits)

abbrev pub exit_asked : List ℕ → Option Exit
exit_asked word = exit_by word (value_after (codes "trapped:") word)

abbrev pub with_exit : List ℕ → ℕ → Option (ℕ × Exit)
with_exit word h = option_map (λ x. (h, x)) (exit_asked word)

-- the nexus with the name before the first equals sign, and the end behind that
abbrev pub ask_at : List (List ℕ) → List ℕ → ℕ → Option (ℕ × Exit)
ask_at names word i = option_and_then (with_exit (drop (i + 1) word)) (number_of names (take i word))

unfoldable pub ask_of : List (List ℕ) → List ℕ → Option (ℕ × Exit)
ask_of names word = option_and_then (ask_at names word) (position (λ b. b == EQUALS) word)

abbrev pub is_free : Option Exit → Bool
is_free None = true
is_free (Some x) = false

-- one more, to which its script may come, and of which nothing was asked yet
abbrev pub with_ask : Scenario → List (Option Exit) → ℕ × Exit → Option (List (Option Exit))
with_ask s asks a = if may_end_so a.1 (task s a.0) && is_free (slice_index_or asks a.0 None) then Some (slice_set asks a.0 (Some a.1)) else None

-- all of them, one after another
abbrev pub asks_from : Scenario → List (Option Exit) → List (List ℕ) → Option (List (Option Exit))
asks_from s asks [] = Some asks
asks_from s asks (word ∷ words) = option_and_then (λ more. asks_from s more words) (option_and_then (with_ask s asks) (ask_of (names_in s) word))

-- what these words ask for, if each asks for an end to which its script may come, and none of them for a second one of a script
abbrev pub asks_of : Scenario → List (List ℕ) → Option (List (Option Exit))
asks_of s words = asks_from s (replicate (length s.nexuses) None) words

-- the same as a search takes it
abbrev pub exits_of : List (Option End) → List (Option Exit)
exits_of asked = map (option_map (λ e. exit_in (Some e))) asked
