-- Agrees with docs/FORMATS.md, 'The lines of a scenario'.
-- What the next line makes of what is declared so far.
use Rattle.std.specs.Prelude.{ℕ, List, [], ◌∷◌, Some, None, Bool, false, ◌++◌, slice_set, Result, drop, true, ◌+◌, fold}
use Rattle.std.specs.Option.{option_map_or}
use Rattle.std.specs.List.{slice_get}
use Rattle.pr_script.specs.declared.script.Test.{Test}
use Rattle.pr_lines.specs.declared.item.RefusalKind.{RefusalKind}
use Rattle.pr_lines.specs.declared.item.RefusalKind.TheVariants as refusal
use Rattle.pr_text.specs.declared.fault.ReadError.{ReadError}
use Rattle.pr_text.specs.Declarations.{WrittenTask, scripted, planned, Declaration, OpenBlock, repeating, sending, OpenLines, outside, in_script, in_plan, Declared}
use Rattle.pr_lines.specs.Chain.{each}
use Rattle.pr_text.specs.Declaring.{number_of, codes_of, held_of}
use Rattle.pr_text.specs.Faults.{unless}
use Rattle.pr_lines.specs.ScenarioLines.{ScenarioLine, fence_line, keys_line, nexus_line, start_line, pending_line, refusals_line, reservation_line, generation_line, resets_line, alone_line, order_line, role_line, script_line, plan_line, end_line, send_line, on_line, done_line, repeat_line, break_line, stop_line, command_line, DeclaringLine, StatementLine, declares, states}
use Rattle.pr_text.specs.LineFaults.{fault_at}
use Rattle.pr_text.specs.ScriptLines.{ScriptLine, send_at, arm_on, block_done, repeat_of, break_out, stop_with}
use Rattle.pr_text.specs.Standing.{by_place, of_plan, of_script, by_innermost}

-- ---- nexuses

-- something else is declared of the nexus with this number
abbrev pub with_nexus : Declared → ℕ → (Declaration → Declaration) → Declared
with_nexus d h f = record d { nexuses = option_map_or (λ x. slice_set d.nexuses h (f x)) (slice_get d.nexuses h) d.nexuses }

abbrev pub with_named : Declared → List ℕ → (Declaration → Declaration) → Declared
with_named d name f = option_map_or (λ h. with_nexus d h f) (number_of d.nexuses name) d

-- one more is declared, of which nothing is said yet
abbrev pub with_more : ℕ → Bool → List ℕ → Declared → Declared
with_more n guest name d =
    record d { nexuses = d.nexuses ++ record { name = name; line = n; is_guest = guest; start = None; pending = None; busy = None; full = None; alone = false; role = []; task = None } ∷ [] }

-- nobody else sends on the path of this one
abbrev pub with_alone : Declared → List ℕ → Declared
with_alone d name = with_named d name (λ x. record x { alone = true })

-- this refusal may come so often
abbrev pub with_count : RefusalKind → ℕ → Declaration → Declaration
with_count refusal.Busy count x = record x { busy = Some count }
with_count refusal.Full count x = record x { full = Some count }

-- the nexus with this number has its task, and the next line stands outside
abbrev pub with_task : Declared → ℕ → WrittenTask → Declared
with_task d h t = record (with_nexus d h (λ x. record x { task = Some t })) { place = outside }

-- ---- scripts

-- a script that begins
abbrev pub begun_script : ℕ → ℕ → OpenLines
begun_script h budget = record { host = h; budget = budget; lines = []; statements = 0; blocks = []; begun = false }

-- a line that opens a block
abbrev pub with_block : ScriptLine → OpenBlock → OpenLines → OpenLines
with_block line block o = record o { lines = o.lines ++ line ∷ []; statements = o.statements + 1; blocks = block ∷ o.blocks; begun = false }

-- a line that is a whole statement
abbrev pub with_statement : ScriptLine → OpenLines → OpenLines
with_statement line o = record o { lines = o.lines ++ line ∷ []; statements = o.statements + 1; begun = true }

-- the innermost block, a send, has one arm more
abbrev pub with_arm : Test → OpenLines → OpenLines
with_arm t o =
    record o { lines = o.lines ++ arm_on t ∷ []; blocks = by_innermost o.blocks o.blocks (λ c arms. sending c (arms + 1) ∷ drop 1 o.blocks) o.blocks; begun = false }

-- the innermost block ends
abbrev pub with_block_closed : OpenLines → OpenLines
with_block_closed o = record o { lines = o.lines ++ block_done ∷ []; blocks = drop 1 o.blocks; begun = true }

-- what a line of this number makes of the script that is open
abbrev pub with_statement_line : ℕ → StatementLine → OpenLines → OpenLines
with_statement_line n (send_line s) o = with_block (send_at n s.command) (sending s.command 0) o
with_statement_line n (on_line t) o = with_arm t o
with_statement_line n done_line o = with_block_closed o
with_statement_line n (repeat_line count) o = with_block (repeat_of count) repeating o
with_statement_line n break_line o = with_statement break_out o
with_statement_line n (stop_line word) o = with_statement (stop_with word) o

-- ---- any line

-- what is declared with a line outside, of this number
abbrev pub with_declared : ℕ → Declared → DeclaringLine → Declared
with_declared n d (keys_line keys) = record d { keys = Some keys }
with_declared n d (nexus_line guest name) = with_more n guest name d
with_declared n d (start_line name xs) = with_named d name (λ x. record x { start = Some xs })
with_declared n d (pending_line name xs) = with_named d name (λ x. record x { pending = Some (codes_of xs) })
with_declared n d (refusals_line r name count) = with_named d name (with_count r count)
with_declared n d (reservation_line ws) = record d { reservations = each (held_of d.nexuses) ws }
with_declared n d (generation_line g) = record d { generation = Some g }
with_declared n d (resets_line count) = record d { resets = Some count }
with_declared n d (alone_line names) = fold with_alone d names
with_declared n d order_line = record d { in_order = true }
with_declared n d (role_line name clause) = with_named d name (λ x. record x { role = x.role ++ clause ∷ [] })
with_declared n d (script_line name budget) = option_map_or (λ h. record d { place = in_script (begun_script h budget) }) (number_of d.nexuses name) d
with_declared n d (plan_line name) = option_map_or (λ h. record d { place = in_plan h [] }) (number_of d.nexuses name) d

-- what is declared with the line of this number, where nothing is wrong with it
abbrev pub with_line : ℕ → Declared → ScenarioLine → Declared
with_line n d (fence_line version) = record d { version = version; place = outside }
with_line n d (declares l) = with_declared n d l
with_line n d (states l) = record d { place = of_script d.place (λ o. in_script (with_statement_line n l o)) d.place }
with_line n d (command_line s) = record d { place = of_plan d.place (λ h commands. in_plan h (commands ++ s.command ∷ [])) d.place }
with_line n d end_line =
    by_place d d (λ o. with_task d o.host (scripted o.lines o.budget)) (λ h commands. with_task d h (planned commands)) d.place

-- the first thing that is wrong with the line, or what is declared with it
unfoldable pub item_placed : ℕ → ScenarioLine → Declared → Result Declared ReadError
item_placed n item d = unless (fault_at n d item) (with_line n d item)
