-- What the words behind each word say that lines begin with.
use Rattle.std.specs.Prelude.{ℕ, List, Option, Some, option_map, None, true, false}
use Rattle.pr_lines.specs.declared.item.RefusalKind.TheVariants as refusal
use Rattle.pr_lines.specs.declared.keyword.Keyword.{Keyword}
use Rattle.pr_lines.specs.declared.keyword.Keyword.TheVariants as keyword
use Rattle.pr_script.specs.Chain.{◌>>=◌}
use Rattle.pr_lines.specs.Clauses.{clause_of, test_of}
use Rattle.pr_lines.specs.CommandWords.{spelled_of, spelled_in}
use Rattle.pr_lines.specs.ScenarioLines.{ScenarioLine, keys_line, nexus_line, reservation_line, generation_line, resets_line, alone_line, plan_line, end_line, send_line, on_line, done_line, repeat_line, break_line, stop_line, command_line, list_of, start_reservation_of, only_name, only_count, parse_fence, parse_order, start_line, pending_line, refusals_line, role_line, script_line, alternative_of, budget_in, parse_of_name, declares, states}
use Rattle.pr_lines.specs.TextLines.{only, if_alone}
use Rattle.pr_lines.specs.WordTerms.{key_of, name_of, generation_of, code_of}

-- what the words behind a keyword say that takes no list
abbrev pub parse_plain : Keyword → List (List ℕ) → Option ScenarioLine
parse_plain keyword.Fence ws = parse_fence ws
parse_plain keyword.Host ws = option_map (λ name. declares (nexus_line false name)) (only_name ws)
parse_plain keyword.Guest ws = option_map (λ name. declares (nexus_line true name)) (only_name ws)
parse_plain keyword.Busy ws = parse_of_name (λ name count. declares (refusals_line refusal.Busy name count)) only_count ws
parse_plain keyword.Full ws = parse_of_name (λ name count. declares (refusals_line refusal.Full name count)) only_count ws
parse_plain keyword.Generation ws = option_map (λ n. declares (generation_line n)) (only ws >>= generation_of)
parse_plain keyword.Resets ws = option_map (λ n. declares (resets_line n)) (only_count ws)
parse_plain keyword.Order ws = parse_order ws
parse_plain keyword.Role ws = parse_of_name (λ name clause. declares (role_line name clause)) clause_of ws
parse_plain keyword.Script ws = parse_of_name (λ name budget. declares (script_line name budget)) budget_in ws
parse_plain keyword.Plan ws = option_map (λ name. declares (plan_line name)) (only_name ws)
parse_plain keyword.End ws = if_alone end_line ws
parse_plain keyword.Send ws = option_map (λ s. states (send_line s)) (spelled_in ws)
parse_plain keyword.On ws = option_map (λ t. states (on_line t)) (test_of ws)
parse_plain keyword.Done ws = if_alone (states done_line) ws
parse_plain keyword.Repeat ws = option_map (λ n. states (repeat_line n)) (only_count ws)
parse_plain keyword.Break ws = if_alone (states break_line) ws
parse_plain keyword.Stop ws = option_map (λ word. states (stop_line word)) (only_name ws)
parse_plain keyword.Keys ws = None
parse_plain keyword.Start ws = None
parse_plain keyword.Pending ws = None
parse_plain keyword.Reservation ws = None
parse_plain keyword.Alone ws = None

-- what the words behind a keyword say
abbrev pub parse_after : Keyword → List (List ℕ) → Option ScenarioLine
parse_after keyword.Keys ws = option_map (λ keys. declares (keys_line keys)) (list_of key_of ws)
parse_after keyword.Start ws = parse_of_name (λ name xs. declares (start_line name xs)) (list_of alternative_of) ws
parse_after keyword.Pending ws = parse_of_name (λ name xs. declares (pending_line name xs)) (list_of code_of) ws
parse_after keyword.Reservation ws = option_map (λ xs. declares (reservation_line xs)) (list_of start_reservation_of ws)
parse_after keyword.Alone ws = option_map (λ names. declares (alone_line names)) (list_of name_of ws)
parse_after k ws = parse_plain k ws

-- what a line says that begins with this word; one without a keyword is a command of a plan
abbrev pub parse_with : Option Keyword → List ℕ → List (List ℕ) → Option ScenarioLine
parse_with (Some k) word ws = parse_after k ws
parse_with None word ws = option_map (λ s. command_line s) (spelled_of word ws)
