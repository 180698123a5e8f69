-- Agrees with docs/FORMATS.md, 'Outline text'.
-- The text of outlines: for each host that has a script a line, and for each send of the script its line and command,
-- what is possible when it is sent, and what becomes of the replies. What is possible stands in the order of its numbers.
use Rattle.std.specs.Prelude.{ℕ, ◌+◌, Bool, true, false, List, [], ◌∷◌, ◌++◌, length, map, codes, decimal, Option, None, Some}
use Rattle.std.specs.FinSet as set
use Rattle.std.specs.List.{filter, flat_map, range_with_len, slice_get}
use Rattle.pr_cdb.specs.declared.command.Command.{Command}
use Rattle.pr_cdb.specs.declared.command.Kind.{Kind}
use Rattle.pr_cdb.specs.declared.command.Kind.TheVariants.{WriteExclusive, ExclusiveAccess, WriteExclusiveRegistrantsOnly, ExclusiveAccessRegistrantsOnly, WriteExclusiveAllRegistrants, ExclusiveAccessAllRegistrants}
use Rattle.pr_attention.specs.Attentions.{attentions}
use Rattle.pr_attention.specs.Flagged.{codes_of}
use Rattle.pr_registry.specs.declared.held.Held.{Held}
use Rattle.pr_registry.specs.declared.held.Held.TheVariants.{One, All}
use Rattle.pr_script.specs.declared.script.Test.{Test}
use Rattle.pr_script.specs.declared.landing.Class.{Class}
use Rattle.pr_roles.specs.Keys.{key_at}
use Rattle.pr_views.specs.Possibilities.{number_of, count_of_attentions}
use Rattle.pr_views.specs.Views.{View}
use Rattle.pr_views.specs.Tables.{Row, Table}
use Rattle.pr_output.specs.PrintedLines.{line, key_word, class_word, attentions_word}
use Rattle.pr_report.specs.ScenarioWords.{command_words, test_words}
use Rattle.pr_trace.specs.TraceText.{name_of, held_word}

-- the line of these words behind two spaces
abbrev pub indented_line : List (List ℕ) → List ℕ
indented_line words = line (codes " ") words

-- ---- what is possible

abbrev pub free_or_key : Option ℕ → List ℕ
free_or_key None = codes "free"
free_or_key (Some key) = key_word key

-- the words of the registrations with these keys that are possible, as their numbers tell
abbrev pub free_or_keys : List ℕ → (ℕ → Bool) → List (List ℕ)
free_or_keys keys is_possible = map (λ r. free_or_key (key_at keys r)) (filter is_possible (range_with_len 0 (length keys + 1)))

unfoldable pub registration_line : List (List ℕ) → View → ℕ → List ℕ
registration_line names v g =
    indented_line (codes "registration" ∷ name_of names g ∷ free_or_keys v.scope.keys (v.registrations g))

-- the types of which one nexus is the holder
abbrev pub kinds_of_one : List Kind
kinds_of_one = WriteExclusive ∷ ExclusiveAccess ∷ WriteExclusiveRegistrantsOnly ∷ ExclusiveAccessRegistrantsOnly ∷ []

-- the reservations of this type, by each holder
abbrev pub held_by_one : ℕ → Kind → List (Option Held)
held_by_one hosts kind = map (λ h. Some (One kind h)) (range_with_len 0 hosts)

-- all reservations of so many nexuses
abbrev pub reservations : ℕ → List (Option Held)
reservations hosts =
    None
    ∷ (flat_map (held_by_one hosts) kinds_of_one
    ++ (Some (All WriteExclusiveAllRegistrants) ∷ Some (All ExclusiveAccessAllRegistrants) ∷ []))

-- those of them that the view shows as possible
abbrev pub possible_of : View → List (Option Held) → List (Option Held)
possible_of v helds = filter (λ held. v.reservations (number_of v.scope.hosts held)) helds

unfoldable pub reservation_line : List (List ℕ) → View → List ℕ
reservation_line names v = indented_line (codes "reservation" ∷ map (held_word names) (possible_of v (reservations v.scope.hosts)))

-- the codes of the set with this number, the lowest first
abbrev pub codes_in : ℕ → List ℕ
codes_in q = filter (set.contains (codes_of q)) attentions

-- the words of the sets of attentions that are possible, as their numbers tell
abbrev pub sets_words : (ℕ → Bool) → List (List ℕ)
sets_words is_possible = map (λ q. attentions_word (codes_in q)) (filter is_possible (range_with_len 0 count_of_attentions))

unfoldable pub pending_line : View → List ℕ
pending_line v = indented_line (codes "pending" ∷ sets_words v.pending)

unfoldable pub view_text : List (List ℕ) → View → List ℕ
view_text names v =
    flat_map (registration_line names v) (range_with_len 0 v.scope.hosts) ++ (reservation_line names v ++ pending_line v)

-- ---- what becomes of the replies

abbrev pub permitted_text : Bool → List ℕ
permitted_text true = []
permitted_text false = indented_line (codes "not" ∷ codes "permitted" ∷ [])

-- the line of an arm that asks this
abbrev pub on_line : List (List ℕ) → List ℕ
on_line asked = indented_line (codes "on" ∷ asked)

-- the line of an arm; an arm that is not there has none
abbrev pub arm_text : Option Test → List ℕ
arm_text None = []
arm_text (Some test) = on_line (test_words test)

-- those of these arms, by their places among the tests
abbrev pub arms_text : List Test → List ℕ → List ℕ
arms_text tests arms = flat_map (λ arm. arm_text (slice_get tests arm)) arms

abbrev pub unarmed_line : Class → List ℕ
unarmed_line class = indented_line (codes "no" ∷ codes "arm" ∷ class_word class ∷ [])

-- where no reply may come at all
abbrev pub never_text : List ℕ → List Class → List ℕ
never_text [] [] = indented_line (codes "never" ∷ codes "sent" ∷ [])
never_text [] (class ∷ classes) = []
never_text (arm ∷ arms) [] = []
never_text (arm ∷ arms) (class ∷ classes) = []

unfoldable pub replies_text : Row → List ℕ
replies_text r =
    permitted_text r.permitted
    ++ (arms_text r.tests r.arms
    ++ (flat_map unarmed_line r.unarmed ++ never_text r.arms r.unarmed))

-- ---- the whole

unfoldable pub send_line : ℕ → Command → List ℕ
send_line at command = line (codes "line") (decimal at ∷ codes "send" ∷ command_words command)

unfoldable pub send_text : List (List ℕ) → ℕ → View → Row → List ℕ
send_text names at v r = send_line at r.command ++ (view_text names v ++ replies_text r)

-- the sends of a script, of which each has a view, by its line, and a row
abbrev pub sends_text : List (List ℕ) → List (ℕ × View) → List Row → List ℕ
sends_text names [] rows = []
sends_text names (view ∷ views) [] = []
sends_text names (view ∷ views) (row ∷ rows) = send_text names view.0 view.1 row ++ sends_text names views rows

unfoldable pub table_text : List (List ℕ) → Table → List ℕ
table_text names t = line (codes "script") (name_of names t.outline.host ∷ []) ++ sends_text names t.outline.views t.rows

abbrev pub outlines_text : List (List ℕ) → List Table → List ℕ
outlines_text names tables = flat_map (table_text names) tables
