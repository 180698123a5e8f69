-- Agrees with docs/FORMATS.md, 'The lines of a scenario'.
-- What one line of a text says.
use Rattle.std.specs.Prelude.{ℕ, Bool, true, false, ◌==◌, if◌then◌else◌, List, [], ◌∷◌, length, take, drop, slice_index, codes, bytes_eq, Option, Some, None, option_map, map}
use Rattle.pr_cdb.specs.declared.command.Kind.{Kind}
use Rattle.pr_attention.specs.declared.attention.Attention.{Attention}
use Rattle.pr_registry.specs.Registrations.{is_all}
use Rattle.pr_script.specs.declared.script.Test.{Test}
use Rattle.pr_roles.specs.declared.role.Clause.{Clause}
use Rattle.pr_lines.specs.declared.versions.TheConstants.{VERSIONS}
use Rattle.pr_lines.specs.declared.item.RefusalKind.{RefusalKind}
use Rattle.pr_lines.specs.declared.item.RefusalKind.TheVariants as refusal
use Rattle.pr_lines.specs.declared.spelling.ParsedCommand.{ParsedCommand}
use Rattle.pr_script.specs.Chain.{◌>>=◌}
use Rattle.pr_lines.specs.Chain.{each}
use Rattle.pr_lines.specs.Lookups.{lookup}
use Rattle.pr_lines.specs.TextLines.{character, only, is_end, if_alone}
use Rattle.pr_lines.specs.WordTerms.{name_of, key_of, generation_of, count_of, kind_of, code_of}
use Rattle.pr_lines.specs.CommandWords.{spelled_of, spelled_in}
use Rattle.pr_lines.specs.Clauses.{clause_of, test_of}

-- a reservation that there may be at the start: none, of a single nexus with this name, or of all
-- registrants
pub data StartReservation : Type 0 where
  nobody : StartReservation
  single : Kind → List ℕ → StartReservation
  everybody : Kind → StartReservation

-- A line outside scripts and plans, with the terms on it. A nexus is a guest where the flag says so, and a line of
-- refusals or of resets says how often one may come. On the paths of some hosts nobody else sends, and the order is that of a disk
-- which looks at the reservation before an attention. A key, a count or a name need not be one that the text may have
-- there.
pub data DeclaringLine : Type 0 where
  keys_line : List ℕ → DeclaringLine
  nexus_line : Bool → List ℕ → DeclaringLine
  start_line : List ℕ → List (Option ℕ) → DeclaringLine
  pending_line : List ℕ → List Attention → DeclaringLine
  refusals_line : RefusalKind → List ℕ → ℕ → DeclaringLine
  reservation_line : List StartReservation → DeclaringLine
  generation_line : ℕ → DeclaringLine
  resets_line : ℕ → DeclaringLine
  alone_line : List (List ℕ) → DeclaringLine
  order_line : DeclaringLine
  role_line : List ℕ → Clause → DeclaringLine
  script_line : List ℕ → ℕ → DeclaringLine
  plan_line : List ℕ → DeclaringLine

-- a line of a script
pub data StatementLine : Type 0 where
  send_line : ParsedCommand → StatementLine
  on_line : Test → StatementLine
  done_line : StatementLine
  repeat_line : ℕ → StatementLine
  break_line : StatementLine
  stop_line : List ℕ → StatementLine

-- a line that keeps its shape
pub data ScenarioLine : Type 0 where
  fence_line : ℕ → ScenarioLine
  declares : DeclaringLine → ScenarioLine
  states : StatementLine → ScenarioLine
  command_line : ParsedCommand → ScenarioLine
  end_line : ScenarioLine

-- ---- lists

-- what each word is, of at least one
abbrev pub list_of : {A : Type 0} → (List ℕ → Option A) → List (List ℕ) → Option (List A)
list_of f ws = if is_end ws then None else each f ws

-- a registration: `free`, or a key
abbrev pub alternative_of : List ℕ → Option (Option ℕ)
alternative_of word = if bytes_eq word (codes "free") then Some None else option_map (λ key. Some key) (key_of word)

-- the type of all registrants
abbrev pub everybody_of : List ℕ → Option StartReservation
everybody_of word = kind_of word >>= λ kind. if is_all kind then Some (everybody kind) else None

-- the type of a single holder, a colon, and its name
abbrev pub single_of : List ℕ → Option StartReservation
single_of word =
    if slice_index word 1 == character (codes ":") then
    (kind_of (take 1 word) >>= λ kind. if is_all kind then None else option_map (λ name. single kind name) (name_of (drop 2 word)))
    else None

-- a reservation
unfoldable pub start_reservation_of : List ℕ → Option StartReservation
start_reservation_of word =
    if bytes_eq word (codes "none") then Some nobody else (if length word == 1 then everybody_of word else single_of word)

-- ---- lines

-- a name, and the words behind it
abbrev pub name_in : List (List ℕ) → Option (List ℕ × List (List ℕ))
name_in [] = None
name_in (w ∷ ws) = option_map (λ name. (name, ws)) (name_of w)

-- a name and nothing else
abbrev pub only_name : List (List ℕ) → Option (List ℕ)
only_name ws = only ws >>= name_of

-- a count and nothing else
abbrev pub only_count : List (List ℕ) → Option ℕ
only_count ws = only ws >>= count_of

-- `budget` and a count
abbrev pub budget_in : List (List ℕ) → Option ℕ
budget_in [] = None
budget_in (w ∷ ws) = if bytes_eq w (codes "budget") then only_count ws else None

-- the version of the language that this is
abbrev pub parse_fence : List (List ℕ) → Option ScenarioLine
parse_fence ws = only ws >>= λ word. option_map (λ version. fence_line version) (lookup (map (λ row. (row.0.now, row.1)) VERSIONS) word)

-- the one order that a line says: a conflict comes before an attention
abbrev pub parse_order : List (List ℕ) → Option ScenarioLine
parse_order ws = only ws >>= λ word. if bytes_eq word (codes "conflict") then Some (declares order_line) else None

-- what a line says of a name, and of what the words behind it are
abbrev pub parse_of_name : {A : Type 0} → (List ℕ → A → ScenarioLine) → (List (List ℕ) → Option A) → List (List ℕ) → Option ScenarioLine
parse_of_name says f ws = name_in ws >>= λ r. option_map (says r.0) (f r.1)

-- what a line says that begins with this word; one without a keyword is a command of a plan
unfoldable pub item_of : List ℕ → List (List ℕ) → Option ScenarioLine
item_of word ws =
    if bytes_eq word (codes "fence") then parse_fence ws else (
    if bytes_eq word (codes "keys") then option_map (λ keys. declares (keys_line keys)) (list_of key_of ws) else (
    if bytes_eq word (codes "host") then option_map (λ name. declares (nexus_line false name)) (only_name ws) else (
    if bytes_eq word (codes "guest") then option_map (λ name. declares (nexus_line true name)) (only_name ws) else (
    if bytes_eq word (codes "start") then parse_of_name (λ name xs. declares (start_line name xs)) (list_of alternative_of) ws else (
    if bytes_eq word (codes "pending") then parse_of_name (λ name xs. declares (pending_line name xs)) (list_of code_of) ws else (
    if bytes_eq word (codes "busy") then parse_of_name (λ name count. declares (refusals_line refusal.Busy name count)) only_count ws else (
    if bytes_eq word (codes "full") then parse_of_name (λ name count. declares (refusals_line refusal.Full name count)) only_count ws else (
    if bytes_eq word (codes "reservation") then option_map (λ xs. declares (reservation_line xs)) (list_of start_reservation_of ws) else (
    if bytes_eq word (codes "generation") then option_map (λ n. declares (generation_line n)) (only ws >>= generation_of) else (
    if bytes_eq word (codes "resets") then option_map (λ n. declares (resets_line n)) (only_count ws) else (
    if bytes_eq word (codes "alone") then option_map (λ names. declares (alone_line names)) (list_of name_of ws) else (
    if bytes_eq word (codes "order") then parse_order ws else (
    if bytes_eq word (codes "role") then parse_of_name (λ name clause. declares (role_line name clause)) clause_of ws else (
    if bytes_eq word (codes "script") then parse_of_name (λ name budget. declares (script_line name budget)) budget_in ws else (
    if bytes_eq word (codes "plan") then option_map (λ name. declares (plan_line name)) (only_name ws) else (
    if bytes_eq word (codes "end") then if_alone end_line ws else (
    if bytes_eq word (codes "send") then option_map (λ s. states (send_line s)) (spelled_in ws) else (
    if bytes_eq word (codes "on") then option_map (λ t. states (on_line t)) (test_of ws) else (
    if bytes_eq word (codes "done") then if_alone (states done_line) ws else (
    if bytes_eq word (codes "repeat") then option_map (λ n. states (repeat_line n)) (only_count ws) else (
    if bytes_eq word (codes "break") then if_alone (states break_line) ws else (
    if bytes_eq word (codes "stop") then option_map (λ word. states (stop_line word)) (only_name ws) else (
    option_map (λ s. command_line s) (spelled_of word ws))))))))))))))))))))))))
