-- Agrees with docs/FORMATS.md, 'Faults'.
-- What a text declares, or its one fault.
use Rattle.std.specs.Prelude.{ℕ, List, length, Option, [], ◌∷◌, Some, if◌then◌else◌, None, Bool, ◌&&◌, is_none, unwrap_or, false, ◌==◌, nat_lt, true, Result, Ok, Err, not, is_some, ◌+◌, map}
use Rattle.std.specs.Option.{option_map_or}
use Rattle.std.specs.Str.Lines.{lines}
use Rattle.pr_registry.specs.declared.held.Held.{Held}
use Rattle.pr_roles.specs.FirstStarts.{first_under}
use Rattle.pr_text.specs.declared.text.TheConstants.{MOST_BYTES, MOST_LINE_BYTES}
use Rattle.pr_text.specs.declared.fault.ReadError.{ReadError}
use Rattle.pr_text.specs.declared.fault.Which.TheVariants as which
use Rattle.pr_text.specs.declared.fault.ReadError.TheVariants as fault
use Rattle.pr_text.specs.Declarations.{Declaration, Declared, nothing}
use Rattle.pr_text.specs.Faults.{and_then, unless}
use Rattle.pr_lines.specs.ScenarioLines.{item_of}
use Rattle.pr_text.specs.NextLine.{item_placed}
use Rattle.pr_text.specs.Standing.{by_place, is_before_all}
use Rattle.pr_lines.specs.TextLines.{is_text, words}

-- ---- one line

-- a line without words says nothing, and words that keep no shape are at fault
abbrev pub words_placed : ℕ → List (List ℕ) → Declared → Result Declared ReadError
words_placed n [] d = Ok d
words_placed n (w ∷ ws) d = option_map_or (λ item. item_placed n item d) (item_of w ws) (Err (fault.Syntax n))

unfoldable pub line_placed : ℕ → List ℕ → Declared → Result Declared ReadError
line_placed n line d =
    if not (is_text line) then Err (fault.NotAscii n) else (
    if nat_lt MOST_LINE_BYTES (length line) then Err (fault.LineTooLong n) else words_placed n (words line) d)

-- ---- all lines, behind so many others

abbrev pub all_placed : ℕ → List (List ℕ) → Declared → Result Declared ReadError
all_placed n [] d = Ok d
all_placed n (l ∷ ls) d = and_then (line_placed (n + 1) l d) (λ e. all_placed (n + 1) ls e)

-- ---- the end

-- the line of the first host that has no script
abbrev pub first_unscripted : List Declaration → Option ℕ
first_unscripted [] = None
first_unscripted (x ∷ xs) = if not x.is_guest && is_none x.task then Some x.line else first_unscripted xs

-- a nexus is free where nothing is written, and nothing is reserved where nothing is written
abbrev pub start_of : Declaration → List (Option ℕ)
start_of x = unwrap_or x.start (None ∷ [])

abbrev pub reservations_of : Declared → List (Option Held)
reservations_of d = unwrap_or d.reservations (None ∷ [])

-- There is a first start: of the reservations, one has registrations under which it is well formed, each of
-- them the first of its alternatives but where the reservation wants a key. There is one just where some state
-- is allowed to start from, which pr_roles proves as a law of its own.
abbrev pub starts_somewhere : Declared → Bool
starts_somewhere d = is_some (first_under (map start_of d.nexuses) (reservations_of d))

-- After the last line, of this number: the first thing that is wrong with the whole. Nothing was begun, a script or
-- a plan is open, no nexus is declared, a host has no script, or nothing can start.
abbrev pub end_fault : ℕ → Declared → Option ReadError
end_fault n d =
    if is_before_all d.place then Some (fault.Syntax 1) else (
    if by_place false false (λ o. true) (λ h commands. true) d.place then Some (fault.Unclosed n) else (
    if length d.nexuses == 0 then Some (fault.Limit which.Hosts n) else
    option_map_or (λ line. Some (fault.Syntax line)) (first_unscripted d.nexuses) (
    if starts_somewhere d then None else Some fault.EmptyStart)))

unfoldable pub end_placed : ℕ → Declared → Result Declared ReadError
end_placed n d = unless (end_fault n d) d

-- what these lines declare, or their one fault
unfoldable pub answer_of_lines : List (List ℕ) → Result Declared ReadError
answer_of_lines ls = and_then (all_placed 0 ls nothing) (end_placed (length ls))

-- what a text declares, or its one fault
unfoldable pub answer_of : List ℕ → Result Declared ReadError
answer_of text = if nat_lt MOST_BYTES (length text) then Err fault.TooLarge else answer_of_lines (lines text)
