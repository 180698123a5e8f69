-- Agrees with docs/FORMATS.md, 'Versions'.
-- From which version of the language on there is a line.
use Rattle.std.specs.Prelude.{ℕ}
use Rattle.pr_script.specs.Versions.{since as test_since}
use Rattle.pr_lines.specs.ScenarioLines.{DeclaringLine, StatementLine, ScenarioLine, fence_line, declares, states, keys_line, nexus_line, start_line, pending_line, refusals_line, reservation_line, generation_line, resets_line, alone_line, order_line, role_line, script_line, plan_line, end_line, send_line, on_line, done_line, repeat_line, break_line, stop_line, command_line}

-- that of a line outside scripts and plans
abbrev pub declaring_since : DeclaringLine → ℕ
declaring_since (keys_line keys) = 1
declaring_since (nexus_line guest name) = 1
declaring_since (start_line name xs) = 1
declaring_since (pending_line name xs) = 1
declaring_since (refusals_line refusal name count) = 2
declaring_since (reservation_line ws) = 1
declaring_since (generation_line n) = 1
declaring_since (resets_line n) = 2
declaring_since (alone_line names) = 3
declaring_since order_line = 3
declaring_since (role_line name clause) = 1
declaring_since (script_line name budget) = 1
declaring_since (plan_line name) = 1

-- that of a line of a script, which of an arm is that of its test
abbrev pub statement_since : StatementLine → ℕ
statement_since (send_line s) = 1
statement_since (on_line t) = test_since t
statement_since done_line = 1
statement_since (repeat_line n) = 1
statement_since break_line = 1
statement_since (stop_line word) = 1

-- the version from which on texts have such a line
abbrev pub since : ScenarioLine → ℕ
since (fence_line version) = 1
since (declares l) = declaring_since l
since (states l) = statement_since l
since (command_line s) = 1
since end_line = 1
