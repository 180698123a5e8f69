-- Agrees with docs/FORMATS.md, 'Reading a trace'.
-- What a trace text is read as: its entries, or its one fault.
use Rattle.std.specs.Prelude.{◌≡◌, ℕ, Bool, decimal, ◌++◌, ◌+◌, ◌==◌, ◌||◌, ◌&&◌, nat_eq, nat_lt, nat_le, if◌then◌else◌, List, [], ◌∷◌, length, position, codes, bytes_eq, Option, Some, None, Result, Ok, Err, IfOk, IfErr, Vec}
use Rattle.std.specs.List.{slice_split, starts_with}
use Rattle.pr_cdb.specs.declared.reply.Reply.{Reply}
use Rattle.pr_cdb.specs.declared.wire.Wire.{Wire}
use Rattle.pr_roles.specs.declared.entry.Entry.{Entry}
use Rattle.pr_roles.specs.declared.item.Item.{Item}
use Rattle.pr_roles.specs.declared.item.Item.TheVariants.{Sent, Reset}
use Rattle.pr_roles.specs.Scenarios.{Scenario}
use Rattle.pr_roles.specs.Worlds.{entry_of}
use Rattle.pr_trace.specs.declared.ahead.TheConstants.{MOST_LINE_BYTES}
use Rattle.pr_trace.specs.Versions.{has_resets, most_items}
use Rattle.pr_trace.specs.declared.trace_reading.TheConstants.{MOST_LATER_LINES}
use Rattle.pr_trace.specs.declared.trace_error.TraceError.{TraceError}
use Rattle.pr_trace.specs.declared.trace_error.TraceError.TheVariants.{Syntax, UnknownName, TooLong, ReadFault, Memory}
use Rattle.pr_trace.specs.TraceText.{first_line, names_in}
use Rattle.pr_trace.specs.EntryWords.{word_at, exchange_in}

-- the second step, on what the first gave
abbrev pub and_then : {A B : Type 0} → Result A TraceError → (A → Result B TraceError) → Result B TraceError
and_then (Ok a) f = f a
and_then (Err e) f = Err e

-- ---- lines and words

-- what stands behind the last line feed is a line only if there is something
abbrev pub lines_of_parts : List (List ℕ) → List (List ℕ)
lines_of_parts [] = []
lines_of_parts (part ∷ []) = if length part == 0 then [] else part ∷ []
lines_of_parts (part ∷ next ∷ parts) = part ∷ lines_of_parts (next ∷ parts)

-- the parts of the text between line feeds
unfoldable pub lines : List ℕ → List (List ℕ)
lines text = lines_of_parts (slice_split (λ b. b == 10) text)

-- the parts of the line between spaces
unfoldable pub words : List ℕ → List (List ℕ)
words line = slice_split (λ b. b == 32) line

-- ---- an entry's line

-- the number of the nexus with this name
abbrev pub number_of : List (List ℕ) → List ℕ → Option ℕ
number_of names word = position (λ name. bytes_eq name word) names

abbrev pub entry_from : ℕ → Option ℕ → Wire × Reply → Result Entry TraceError
entry_from line None x = Err (UnknownName line)
entry_from line (Some host) x = Ok (entry_of host x.0 x.1)

abbrev pub entry_said : List (List ℕ) → ℕ → List ℕ → Option (Wire × Reply) → Result Entry TraceError
entry_said names line name None = Err (Syntax line)
entry_said names line name (Some x) = entry_from line (number_of names name) x

-- the entry with this index: the first stands on line 2
unfoldable pub entry_on : ℕ → List (List ℕ) → ℕ → List ℕ → Result Entry TraceError
entry_on version names index line = entry_said names (index + 1) (word_at (words line) 1) (exchange_in version index (words line))

-- ---- an item's line

-- the item of a command with this index
abbrev pub sent_on : ℕ → List (List ℕ) → ℕ → List ℕ → Result Item TraceError
sent_on version names index line = and_then (entry_on version names index line) (λ e. Ok (Sent e))

-- the line says that the unit was reset, in a version that has resets
unfoldable pub is_reset_on : ℕ → ℕ → List ℕ → Bool
is_reset_on version index line = has_resets version && bytes_eq line (decimal index ++ codes " reset")

-- the item with this index
unfoldable pub item_on : ℕ → List (List ℕ) → ℕ → List ℕ → Result Item TraceError
item_on version names index line =
    if nat_lt (most_items version) index then Err TooLong else (
    if nat_lt MOST_LINE_BYTES (length line) then Err (Syntax (index + 1)) else (
    if is_reset_on version index line then Ok Reset else sent_on version names index line))

-- ---- all lines

-- this is no item, and no line behind it is
unfoldable pub is_later : List ℕ → Bool
is_later line =
    starts_with nat_eq line (codes "unit") || (starts_with nat_eq line (codes "host") || starts_with nat_eq line (codes "guest"))

-- the lines behind so many items and so many other later lines
abbrev pub later_lines : ℕ → ℕ → List (List ℕ) → Result (Unit {0}) TraceError
later_lines items others [] = Ok tt
later_lines items others (l ∷ ls) =
    if nat_le MOST_LATER_LINES others then Err TooLong else (
    if is_later l && nat_le (length l) MOST_LINE_BYTES then later_lines items (others + 1) ls else Err (Syntax (items + others + 2)))

-- the items of the lines behind the first and so many other items
abbrev pub items_of : ℕ → List (List ℕ) → ℕ → List (List ℕ) → Result (List Item) TraceError
items_of version names others [] = Ok []
items_of version names others (l ∷ ls) =
    if is_later l then and_then (later_lines others 0 (l ∷ ls)) (λ _. Ok []) else
    and_then (item_on version names (others + 1) l) (λ i. and_then (items_of version names (others + 1) ls) (λ is. Ok (i ∷ is)))

abbrev pub trace_in : ℕ → List (List ℕ) → List (List ℕ) → Result (List Item) TraceError
trace_in version names [] = Err (Syntax 1)
trace_in version names (l ∷ ls) = if bytes_eq l (first_line version) then items_of version names 0 ls else Err (Syntax 1)

-- the items of a trace text of this version under these names, or its one fault
unfoldable pub trace_of : ℕ → List (List ℕ) → List ℕ → Result (List Item) TraceError
trace_of version names text = trace_in version names (lines text)

-- those of a trace text of this scenario
abbrev pub trace_under : Scenario → List ℕ → Result (List Item) TraceError
trace_under s text = trace_of s.version (names_in s) text

-- ---- the answer

-- This fault is the text's. A reader may fail on any text, and memory may run out on any.
abbrev pub Faults : {A : Type 0} → TraceError → Result A TraceError → Type 0
Faults (Syntax n) answer = answer ≡ Err (Syntax n)
Faults (UnknownName n) answer = answer ≡ Err (UnknownName n)
Faults TooLong answer = answer ≡ Err TooLong
Faults ReadFault answer = Unit {0}
Faults Memory answer = Unit {0}

-- where a call succeeds, its history is that of this trace text
abbrev pub ReadsTrace : {A : Type 0} → Scenario → Result (Vec Item A) TraceError → List ℕ → Type 0
ReadsTrace s result text = IfOk result (λ history. trace_under s text ≡ Ok history.items)

-- where a call fails, the fault is that of this trace text
abbrev pub FaultsTrace : {A : Type 0} → Scenario → Result A TraceError → List ℕ → Type 0
FaultsTrace s result text = IfErr result (λ e. Faults e (trace_under s text))
