-- The names that most proofs of this crate cite, passed on from one place. Declares nothing.
pub use Rattle.std.proofs.Common.{◌≡◌, ℕ, zero, suc, ◌+◌, ◌-◌, ◌^◌, ◌<◌, ◌≤◌, Bool, true, false, cond, not, ◌&&◌, ◌||◌, List, [], ◌∷◌, ◌++◌, map, length, take, drop, is_some, IfSome, IfOk, IfErr, OnErr, nat_lt, nat_le, ◌==◌, slice_index_or, slice_set, Some, None, Ok, Err, fold, count_by, filter, Option, Result, Vec, option_map, position, option_and_then, bytes_eq, Global, sym, refl, ap, ◌∙◌, subst, inl, inr, append_assoc, append-nil, zero-add, arith, length-append}
pub use Rattle.std.specs.List.{list_all, slice_get, list_any, position_from}
pub use Rattle.std.specs.Option.{option_map_or}
pub use Rattle.std.specs.Prelude.{unwrap_or}
pub use Rattle.std.specs.Str.Lines.{lines}
pub use Rattle.std.proofs.lemmas.Bool.{and_parts, false≢true, and_from, leb-true, le-leb, not-false, not-true, or_parts}
pub use Rattle.std.proofs.lemmas.Bool.Decides.{nat_tests}
pub use Rattle.std.proofs.lemmas.Iterator.Adapters.{position_from-zero}
pub use Rattle.std.proofs.lemmas.List.Folds.{list_all-append}
pub use Rattle.pr_cdb.specs.declared.command.Command.{Command}
pub use Rattle.pr_attention.specs.declared.attention.Attention.{Attention}
pub use Rattle.pr_registry.specs.declared.held.Held.{Held}
pub use Rattle.pr_script.specs.Grammar.{is_written, test_fits}
pub use Rattle.pr_script.specs.Names.{is_name}
pub use Rattle.pr_script.specs.Scripts.{Stmt, Stmts, Arms, sends, repeats, none, more, no_arm, arm, breaks, stops}
pub use Rattle.pr_script.specs.declared.limits.TheConstants.{MOST_STATEMENTS, MOST_ARMS, MOST_OPEN, MOST_TURNS, MOST_BUDGET}
pub use Rattle.pr_script.specs.declared.script.Test.{Test}
pub use Rattle.pr_roles.specs.Fitting.{Fits, is_version, is_count, are_resets, most_declared, are_distinct, is_action, is_role, is_start, is_nexus}
pub use Rattle.pr_roles.specs.Scenarios.{Scenario, Nexus, Task, Scripted, Planned}
unfoldable pub use Rattle.pr_roles.specs.Scenarios.{scenario_of}
pub use Rattle.pr_roles.specs.FirstStarts.{first_under}
pub use Rattle.pr_roles.specs.declared.limits.TheConstants.{MOST_CLAUSES, MOST_PLANNED, MOST_REFUSALS, MOST_RESETS}
pub use Rattle.pr_roles.specs.declared.role.Clause.{Clause}
pub use Rattle.pr_lines.specs.Chain.{each}
pub use Rattle.pr_lines.specs.ScenarioLines.{states, ScenarioLine, DeclaringLine, StatementLine, fence_line, declares, nexus_line, start_line, pending_line, refusals_line, resets_line, alone_line, order_line, role_line, script_line, plan_line, end_line, send_line, on_line, done_line, repeat_line, break_line, stop_line, command_line, keys_line, reservation_line, generation_line}
pub use Rattle.pr_lines.specs.Versions.{since}
pub use Rattle.pr_lines.specs.declared.item.RefusalKind.{RefusalKind}
pub use Rattle.pr_lines.specs.declared.spelling.ParsedCommand.{ParsedCommand}
pub use Rattle.pr_lines.proofs.lemmas.ScenarioLines.Terms.{is_item}
pub use Rattle.pr_text.specs.Declarations.{Declared, nothing, WrittenTask, scripted, planned, Declaration, OpenLines, Context, before_all, outside, in_script, in_plan, OpenBlock, sending}
pub use Rattle.pr_text.specs.Declaring.{codes_of, count_in, declared_keys, held_of}
unfoldable pub use Rattle.pr_text.specs.Declaring.{number_of}
pub use Rattle.pr_text.specs.Faults.{and_then, Fails, unless}
pub use Rattle.pr_text.specs.NextLine.{with_count, with_task, begun_script, with_statement_line}
unfoldable pub use Rattle.pr_text.specs.NextLine.{item_placed}
pub use Rattle.pr_text.specs.Reading.{nexus_written, nexus_declared, IsDeclaredBy, IsWrittenAs, task_written}
pub use Rattle.pr_text.specs.ScriptLines.{ScriptLine, arm_on, block_done, statement_lines, body_lines, arms_lines, send_at, repeat_of, break_out, stop_with}
pub use Rattle.pr_text.specs.ScriptRoundTrip.{all_said}
pub use Rattle.pr_text.specs.Standing.{is_repeating, is_sending, awaits_arm}
pub use Rattle.pr_text.specs.Texts.{all_placed, start_of, starts_somewhere, first_unscripted}
unfoldable pub use Rattle.pr_text.specs.Texts.{end_placed, answer_of}
pub use Rattle.pr_text.specs.declared.fault.ReadError.{ReadError}
pub use Rattle.pr_text.specs.declared.fault.Which.{Which}
unfoldable pub use Rattle.pr_text.specs.inside.LineSteps.{declaring_step, planned_step, item_standing, script_step}
pub use Rattle.pr_text.specs.inside.Drafts.{draft_seen, declared_by}
pub use Rattle.pr_text.specs.inside.Endings.{missing_fault}
pub use Rattle.pr_text.specs.inside.Sound.{is_line_of, IsDated, IsTask, IsDeclaration, AreDeclarations, IsSound, is_statement, Reached, may, may_all, IsPlace}
