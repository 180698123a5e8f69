-- Agrees with docs/FORMATS.md, 'The lines of a scenario'.
-- The values of lines, as what the lines say.
use Rattle.std.specs.Prelude.{map, true, false}
use Rattle.pr_lines.specs.declared.item.ScenarioLine.{ScenarioLine as ItemValue}
use Rattle.pr_lines.specs.declared.item.ScenarioLine.TheVariants as value
use Rattle.pr_lines.specs.declared.item.StartReservation.{StartReservation as WantedValue}
use Rattle.pr_lines.specs.declared.item.StartReservation.TheVariants as wanted
use Rattle.pr_lines.specs.ScenarioLines.{StartReservation, nobody, single, everybody, ScenarioLine, fence_line, keys_line, nexus_line, start_line, pending_line, refusals_line, reservation_line, generation_line, resets_line, alone_line, order_line, role_line, script_line, plan_line, end_line, send_line, on_line, done_line, repeat_line, break_line, stop_line, command_line, declares, states}

abbrev pub wanted_seen : WantedValue → StartReservation
wanted_seen wanted.Nobody = nobody
wanted_seen (wanted.Single kind name) = single kind name.bytes
wanted_seen (wanted.Everybody kind) = everybody kind

abbrev pub line_of_value : ItemValue → ScenarioLine
line_of_value (value.Fence version) = fence_line version
line_of_value (value.Keys keys) = declares (keys_line keys.items)
line_of_value (value.Host name) = declares (nexus_line false name.bytes)
line_of_value (value.Guest name) = declares (nexus_line true name.bytes)
line_of_value (value.Start name xs) = declares (start_line name.bytes xs.items)
line_of_value (value.Pending name xs) = declares (pending_line name.bytes xs.items)
line_of_value (value.Refusals refusal name count) = declares (refusals_line refusal name.bytes count)
line_of_value (value.Reservation xs) = declares (reservation_line (map wanted_seen xs.items))
line_of_value (value.Generation n) = declares (generation_line n)
line_of_value (value.Resets n) = declares (resets_line n)
line_of_value (value.Alone names) = declares (alone_line (map (λ name. name.bytes) names.items))
line_of_value value.Order = declares order_line
line_of_value (value.Role name clause) = declares (role_line name.bytes clause)
line_of_value (value.Script name budget) = declares (script_line name.bytes budget)
line_of_value (value.Plan name) = declares (plan_line name.bytes)
line_of_value value.End = end_line
line_of_value (value.Send s) = states (send_line s)
line_of_value (value.On t) = states (on_line t)
line_of_value value.Done = states done_line
line_of_value (value.Repeat n) = states (repeat_line n)
line_of_value value.Break = states break_line
line_of_value (value.Stop word) = states (stop_line word.bytes)
line_of_value (value.Command s) = command_line s
