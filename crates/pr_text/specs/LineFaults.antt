-- Agrees with docs/FORMATS.md, 'Faults'.
-- What is wrong with a line, by what is declared before it.
--
-- Which fault a text has is the first one on the way through its lines, so this follows them with what is open: blocks, a count of
-- statements, and whether the innermost has begun. In that it has the shape of the code. It keeps no tree of statements, as the
-- code does. What is independent of it: a scenario that is read is one whose lines are the text's (`Reading`), those lines have no
-- fault (`ScenarioRoundTrip`), no text is written as two scenarios (`Laws`), and tests/vectors has each fault by hand.
use Rattle.std.specs.Prelude.{ℕ, List, length, Option, if◌then◌else◌, [], Some, None, option_map, Bool, ◌&&◌, is_none, unwrap_or, false, ◌==◌, ◌||◌, not, nat_lt, nat_le, is_some, true, count_by, bytes_eq}
use Rattle.std.specs.List.{list_all, list_any}
use Rattle.pr_cdb.specs.declared.command.Command.{Command}
use Rattle.pr_roles.specs.Fitting.{most_declared, are_distinct, is_alternative, is_same_alternative, is_same_reservation, is_action}
use Rattle.pr_attention.specs.Attentions.{code_of}
use Rattle.pr_script.specs.Grammar.{stands_under, is_test_declared}
use Rattle.pr_script.specs.declared.limits.TheConstants.{MOST_STATEMENTS, MOST_ARMS, MOST_OPEN, MOST_TURNS, MOST_BUDGET}
use Rattle.pr_roles.specs.declared.limits.TheConstants.{MOST_KEYS, MOST_CLAUSES, MOST_PLANNED, MOST_REFUSALS, MOST_RESETS}
use Rattle.pr_lines.specs.declared.item.RefusalKind.{RefusalKind}
use Rattle.pr_lines.specs.declared.item.RefusalKind.TheVariants as refusal
use Rattle.pr_lines.specs.declared.spelling.ParsedCommand.{ParsedCommand}
use Rattle.pr_text.specs.declared.fault.Which.{Which}
use Rattle.pr_text.specs.declared.fault.ReadError.{ReadError}
use Rattle.pr_text.specs.declared.fault.Which.TheVariants as which
use Rattle.pr_text.specs.declared.fault.ReadError.TheVariants as fault
use Rattle.pr_text.specs.Declarations.{OpenLines, Declared}
use Rattle.pr_lines.specs.Chain.{each}
use Rattle.pr_text.specs.Declaring.{declared_keys, number_of, nexus_named, holds_of, count_in, held_of, is_spelled}
use Rattle.pr_lines.specs.ScenarioLines.{DeclaringLine, StatementLine, ScenarioLine, fence_line, declares, states, keys_line, nexus_line, start_line, pending_line, refusals_line, reservation_line, generation_line, resets_line, alone_line, order_line, role_line, script_line, plan_line, end_line, send_line, on_line, done_line, repeat_line, break_line, stop_line, command_line}
use Rattle.pr_lines.specs.Versions.{since}
use Rattle.pr_text.specs.Standing.{by_place, is_before_all, is_outside, of_plan, of_script, by_innermost, is_repeating, is_sending, awaits_arm, awaits_more, may_close}

-- ---- a line outside

-- it names what is not declared, or not of the kind that it has to be
abbrev pub names_unknown : Declared → DeclaringLine → Bool
names_unknown d (keys_line keys) = false
names_unknown d (nexus_line guest name) = false
names_unknown d (start_line name xs) = is_none (nexus_named d name)
names_unknown d (pending_line name xs) = is_none (nexus_named d name)
names_unknown d (refusals_line r name count) = is_none (nexus_named d name)
names_unknown d (reservation_line ws) = is_none (each (held_of d.nexuses) ws)
names_unknown d (generation_line g) = false
names_unknown d (resets_line count) = false
names_unknown d (alone_line names) = not (list_all (λ name. holds_of d name (λ x. not x.is_guest)) names)
names_unknown d order_line = false
names_unknown d (role_line name clause) = is_none (nexus_named d name)
names_unknown d (script_line name budget) = not (holds_of d name (λ x. not x.is_guest))
names_unknown d (plan_line name) = not (holds_of d name (λ x. x.is_guest))

-- it has a key that is not declared
abbrev pub keys_undeclared : Declared → DeclaringLine → Bool
keys_undeclared d (keys_line keys) = false
keys_undeclared d (nexus_line guest name) = false
keys_undeclared d (start_line name xs) = not (list_all (is_alternative (declared_keys d)) xs)
keys_undeclared d (pending_line name xs) = false
keys_undeclared d (refusals_line r name count) = false
keys_undeclared d (reservation_line ws) = false
keys_undeclared d (generation_line g) = false
keys_undeclared d (resets_line count) = false
keys_undeclared d (alone_line names) = false
keys_undeclared d order_line = false
keys_undeclared d (role_line name clause) = not (is_action (declared_keys d) clause.action)
keys_undeclared d (script_line name budget) = false
keys_undeclared d (plan_line name) = false

-- it says again what may be said once
abbrev pub says_again : Declared → DeclaringLine → Bool
says_again d (keys_line keys) = is_some d.keys || not (are_distinct (λ j k. j == k) keys)
says_again d (nexus_line guest name) = is_some (number_of d.nexuses name)
says_again d (start_line name xs) = holds_of d name (λ x. is_some x.start) || not (are_distinct is_same_alternative xs)
says_again d (pending_line name xs) = holds_of d name (λ x. is_some x.pending) || not (are_distinct (λ x y. code_of x == code_of y) xs)
says_again d (refusals_line r name count) = holds_of d name (λ x. is_some (count_in r x))
says_again d (reservation_line ws) = is_some d.reservations || not (are_distinct is_same_reservation (unwrap_or (each (held_of d.nexuses) ws) []))
says_again d (generation_line g) = is_some d.generation
says_again d (resets_line count) = is_some d.resets
says_again d (alone_line names) = list_any (λ name. holds_of d name (λ x. x.alone)) names || not (are_distinct bytes_eq names)
says_again d order_line = d.in_order
says_again d (role_line name clause) = false
says_again d (script_line name budget) = holds_of d name (λ x. is_some x.task)
says_again d (plan_line name) = holds_of d name (λ x. is_some x.task)

-- the limit of how often a refusal may come
abbrev pub limit_of : RefusalKind → Which
limit_of refusal.Busy = which.Busy
limit_of refusal.Full = which.Full

-- it goes past this limit
abbrev pub past_limit : Declared → DeclaringLine → Option Which
past_limit d (keys_line keys) = if nat_lt MOST_KEYS (length keys) then Some which.Keys else None
past_limit d (nexus_line guest name) = if nat_le (most_declared d.version) (length d.nexuses) then Some which.Hosts else None
past_limit d (start_line name xs) = None
past_limit d (pending_line name xs) = None
past_limit d (refusals_line r name count) = if not (nat_le 1 count && nat_le count MOST_REFUSALS) then Some (limit_of r) else None
past_limit d (reservation_line ws) = None
past_limit d (generation_line g) = None
past_limit d (resets_line count) = if not (nat_le 1 count && nat_le count MOST_RESETS) then Some which.Resets else None
past_limit d (alone_line names) = None
past_limit d order_line = None
past_limit d (role_line name clause) = if holds_of d name (λ x. nat_le MOST_CLAUSES (length x.role)) then Some which.Roles else None
past_limit d (script_line name budget) = if not (nat_le 1 budget && nat_le budget MOST_BUDGET) then Some which.Budget else None
past_limit d (plan_line name) = None

-- ---- a line of the script that is open

-- it may not stand here
abbrev pub out_of_place : OpenLines → StatementLine → Bool
out_of_place o (send_line s) = awaits_arm o.blocks
out_of_place o (on_line t) = by_innermost true true (λ c arms. not (stands_under c t)) o.blocks
out_of_place o done_line = not (may_close o.blocks o.begun)
out_of_place o (repeat_line count) = awaits_arm o.blocks
out_of_place o break_line = awaits_more o || count_by is_repeating o.blocks == 0
out_of_place o (stop_line word) = awaits_more o

-- it has a key that is not among these
abbrev pub has_undeclared : List ℕ → StatementLine → Bool
has_undeclared keys (send_line s) = not (is_spelled keys s)
has_undeclared keys (on_line t) = not (is_test_declared keys t)
has_undeclared keys done_line = false
has_undeclared keys (repeat_line count) = false
has_undeclared keys break_line = false
has_undeclared keys (stop_line word) = false

-- the script has as many statements as it may have, or else there is this limit
abbrev pub past_size : OpenLines → Option Which → Option Which
past_size o other = if nat_le MOST_STATEMENTS o.statements then Some which.Statements else other

-- it goes past this limit, the first of them
abbrev pub past_limit_in : OpenLines → StatementLine → Option Which
past_limit_in o (send_line s) = past_size o (if nat_le MOST_OPEN (count_by is_sending o.blocks) then Some which.Nesting else None)
past_limit_in o (on_line t) = if by_innermost false false (λ c arms. nat_le MOST_ARMS arms) o.blocks then Some which.Arms else None
past_limit_in o done_line = None
past_limit_in o (repeat_line count) = past_size o (
    if nat_le MOST_OPEN (count_by is_repeating o.blocks) then Some which.Nesting else (
    if not (nat_le 1 count && nat_le count MOST_TURNS) then Some which.Repeat else None))
past_limit_in o break_line = past_size o None
past_limit_in o (stop_line word) = past_size o None

-- ---- any line

-- The first thing that is wrong with the line of this number: it may not stand here, it names what is not
-- declared, it has a key that is not declared, it says again what may be said once, or it goes past a limit.
abbrev pub first_fault : ℕ → Bool → Bool → Bool → Bool → Option Which → Option ReadError
first_fault n misplaced unknown undeclared again past =
    if misplaced then Some (fault.Syntax n) else (
    if unknown then Some (fault.UnknownName n) else (
    if undeclared then Some (fault.UndeclaredKey n) else (
    if again then Some (fault.Repeated n) else
    option_map (λ limit. fault.Limit limit n) past)))

-- what is wrong with a line outside
abbrev pub declaring_fault : ℕ → Declared → DeclaringLine → Option ReadError
declaring_fault n d l = first_fault n false (names_unknown d l) (keys_undeclared d l) (says_again d l) (past_limit d l)

-- what is wrong with a line of a script, under these declared keys
abbrev pub statement_fault : ℕ → List ℕ → OpenLines → StatementLine → Option ReadError
statement_fault n keys o l = first_fault n (out_of_place o l) false (has_undeclared keys l) false (past_limit_in o l)

-- what is wrong with a command of a plan, behind these
abbrev pub command_fault : ℕ → List ℕ → List Command → ParsedCommand → Option ReadError
command_fault n keys commands s =
    first_fault n false false (not (is_spelled keys s)) false (if nat_le MOST_PLANNED (length commands) then Some which.Plan else None)

-- what is wrong with a line that the version has, by where it stands
abbrev pub standing_fault : ℕ → Declared → ScenarioLine → Option ReadError
standing_fault n d (fence_line version) = first_fault n (not (is_before_all d.place)) false false false None
standing_fault n d (declares l) = if is_outside d.place then declaring_fault n d l else Some (fault.Syntax n)
standing_fault n d (states l) = of_script (Some (fault.Syntax n)) (λ o. statement_fault n (declared_keys d) o l) d.place
standing_fault n d (command_line s) = of_plan (Some (fault.Syntax n)) (λ h commands. command_fault n (declared_keys d) commands s) d.place
standing_fault n d end_line = first_fault n (by_place true true (λ o. not (length o.blocks == 0)) (λ h commands. false) d.place) false false false None

-- what is wrong with a line: the version has none like it, or what is wrong where it stands
abbrev pub fault_at : ℕ → Declared → ScenarioLine → Option ReadError
fault_at n d item = if nat_lt d.version (since item) then Some (fault.Syntax n) else standing_fault n d item
