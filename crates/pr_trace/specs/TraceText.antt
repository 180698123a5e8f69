-- Agrees with docs/FORMATS.md, 'Trace text'.
-- The text of a trace: its first line, a line for each command that reached the unit and for each reset, the unit as
-- it ends, and how each nexus ended.
use Rattle.std.specs.Prelude.{ℕ, ◌+◌, List, [], ◌∷◌, ◌++◌, map, codes, Option, None, Some, slice_index, slice_index_or}
use Rattle.std.specs.Fmt.{decimal}
use Rattle.pr_cdb.specs.declared.reply.Sense.{Sense}
use Rattle.pr_cdb.specs.declared.reply.Status.{Status}
use Rattle.pr_cdb.specs.declared.reply.Status.TheVariants.{Good, CheckCondition, Conflict, Busy, TaskFull}
use Rattle.pr_cdb.specs.Kinds.{type_code}
use Rattle.pr_cdb.specs.ReplyData.{sense_bytes}
use Rattle.pr_registry.specs.Registrations.{State, key_of}
use Rattle.pr_registry.specs.declared.held.Held.{Held}
use Rattle.pr_registry.specs.declared.held.Held.TheVariants.{One, All}
use Rattle.pr_roles.specs.declared.entry.Entry.{Entry}
use Rattle.pr_roles.specs.declared.item.Item.{Item}
use Rattle.pr_roles.specs.declared.item.Item.TheVariants.{Sent, Reset}
use Rattle.pr_roles.specs.declared.parts.Nexus.{Nexus as NexusPart}
use Rattle.pr_roles.specs.declared.parts.Parts.{Parts}
use Rattle.pr_roles.specs.Scenarios.{Scenario, scenario_of}
use Rattle.pr_audit.specs.Ends.{Ending, stops, waits, traps, leaves}
use Rattle.pr_output.specs.PrintedLines.{line, pairs_or_dash, generation_word, holder_word, registration_word}

-- the names of the nexuses, in the order of their numbers
abbrev pub names_in : Scenario → List (List ℕ)
names_in s = map (λ n. n.name) s.nexuses

-- those of a scenario in its parts
abbrev pub names_under : Parts → List (List ℕ)
names_under parts = names_in (scenario_of parts)

-- as they are kept
abbrev pub names_of : List NexusPart → List (List ℕ)
names_of nexuses = map (λ n. n.name.bytes) nexuses

-- the name of a nexus, by its number
abbrev pub name_of : List (List ℕ) → ℕ → List ℕ
name_of names host = slice_index_or names host []

-- The first line.

-- without its end; a trace has the version of its scenario
unfoldable pub first_line : ℕ → List ℕ
first_line version = codes "fence-trace " ++ decimal version

-- Commands, and resets of the unit.

abbrev pub status_word : Status → List ℕ
status_word Good = codes "00"
status_word CheckCondition = codes "02"
status_word Conflict = codes "18"
status_word Busy = codes "08"
status_word TaskFull = codes "28"

-- the bytes of the sense, of which there are none where it is absent
abbrev pub sense_data : Option Sense → List ℕ
sense_data None = []
sense_data (Some sense) = sense_bytes sense

unfoldable pub entry_line : ℕ → List (List ℕ) → Entry → List ℕ
entry_line index names e =
    line (decimal index) (
    name_of names e.host
    ∷ pairs_or_dash e.wire.cdb.items
    ∷ pairs_or_dash e.wire.params.items
    ∷ status_word e.reply.status
    ∷ pairs_or_dash (sense_data e.reply.sense)
    ∷ pairs_or_dash e.reply.bytes.items
    ∷ [])

-- a reset
unfoldable pub reset_line : ℕ → List ℕ
reset_line index = line (decimal index) (codes "reset" ∷ [])

abbrev pub item_line : ℕ → List (List ℕ) → Item → List ℕ
item_line index names (Sent e) = entry_line index names e
item_line index names Reset = reset_line index

-- the lines of the items that come after as many others
abbrev pub item_lines : ℕ → List (List ℕ) → List Item → List ℕ
item_lines others names [] = []
item_lines others names (i ∷ is) = item_line (others + 1) names i ++ item_lines (others + 1) names is

-- The unit.

abbrev pub held_word : List (List ℕ) → Option Held → List ℕ
held_word names None = codes "none"
held_word names (Some (One kind host)) = holder_word kind (name_of names host)
held_word names (Some (All kind)) = decimal (type_code kind)

-- the registrations of the hosts from this number on, whose names these are
abbrev pub registration_words : State → ℕ → List (List ℕ) → List (List ℕ)
registration_words unit host [] = []
registration_words unit host (name ∷ names) =
    registration_word name (key_of unit host) ∷ registration_words unit (host + 1) names

unfoldable pub unit_line : List (List ℕ) → State → List ℕ
unit_line names unit =
    line (codes "unit") (generation_word unit.generation ∷ held_word names unit.held ∷ registration_words unit 0 names)

-- Ends.

-- how a nexus of this name ended, after as many of its commands reached the unit
unfoldable pub ending_line : List ℕ → Ending → ℕ → List ℕ
ending_line name (stops word) sent = line (codes "host") (name ∷ codes "stopped" ∷ word ∷ codes "sent" ∷ decimal sent ∷ [])
ending_line name (waits place) sent = line (codes "host") (name ∷ codes "ready" ∷ decimal place ∷ codes "sent" ∷ decimal sent ∷ [])
ending_line name (traps place) sent = line (codes "host") (name ∷ codes "trapped" ∷ decimal place ∷ codes "sent" ∷ decimal sent ∷ [])
ending_line name (leaves planned) sent = line (codes "guest") (name ∷ codes "left" ∷ decimal planned ∷ codes "sent" ∷ decimal sent ∷ [])

-- the ends of the nexuses from this number on, with the counts of all
abbrev pub ending_lines : ℕ → List (List ℕ) → List ℕ → List Ending → List ℕ
ending_lines host names counts [] = []
ending_lines host names counts (e ∷ es) =
    ending_line (name_of names host) e (slice_index counts host) ++ ending_lines (host + 1) names counts es

-- the lines below the first one
abbrev pub trace_body : List (List ℕ) → List Item → State → List Ending → List ℕ → List ℕ
trace_body names history unit ends counts = item_lines 0 names history ++ (unit_line names unit ++ ending_lines 0 names counts ends)

abbrev pub trace_text : ℕ → List (List ℕ) → List Item → State → List Ending → List ℕ → List ℕ
trace_text version names history unit ends counts = (first_line version ++ codes "\n") ++ trace_body names history unit ends counts
