-- The names that most proofs of this crate cite, passed on from one place. Declares nothing.
pub use Rattle.std.proofs.Common.{◌≡◌, ℕ, zero, suc, ◌+◌, ◌-◌, ◌*◌, ◌/◌, ◌%◌, ◌<◌, ◌≤◌, Bool, true, false, cond, ◌&&◌, List, [], ◌∷◌, ◌++◌, map, length, get_or, take, drop, IfSome, if◌then◌else◌, nat_lt, nat_le, ◌==◌, slice_index, Some, None, Ok, Err, codes, decimal, All, Option, Result, position, bytes_eq, sym, refl, ap, ◌∙◌, subst, inl, inr, append_assoc, append-nil, arith, length-append, length-drop, length-take, ne_eqb}
pub use Rattle.std.specs.Fmt.{digit_glyph, digits_onto}
unfoldable pub use Rattle.std.specs.Fmt.{digits}
pub use Rattle.std.specs.Io.KnownBytes.{prepend_known, Keeps, Appends}
pub use Rattle.std.specs.List.{position_or_len, slice_split, list_all}
pub use Rattle.std.proofs.lemmas.Bool.{cases_lt, lt-ltb, and_parts}
pub use Rattle.std.proofs.lemmas.Bool.Decides.{nat_tests}
pub use Rattle.std.proofs.lemmas.List.Splits.{length-slice_split}
pub use Rattle.std.proofs.lemmas.Slice.Eq.{bytes_eq-Decides}
pub use Rattle.std.specs.Option.{option_map_or}
pub use Rattle.std.specs.Prelude.{not}
pub use Rattle.pr_cdb.specs.declared.codes.TheConstants.{MOST_NEXUSES, MOST_CDB_LENGTH, PARAMETER_LIST_LENGTH}
pub use Rattle.pr_cdb.specs.Requests.{AreBytes}
pub use Rattle.pr_cdb.specs.declared.command.Command.{Command}
pub use Rattle.pr_cdb.specs.declared.reply.Reply.{Reply}
pub use Rattle.pr_cdb.specs.declared.reply.Status.{Status}
pub use Rattle.pr_registry.specs.Registrations.{State}
unfoldable pub use Rattle.pr_script.specs.Names.{is_name}
pub use Rattle.pr_output.proofs.lemmas.Written.Fronts.{puts_err, front_first, front_then}
unfoldable pub use Rattle.pr_roles.specs.Scenarios.{scenario_of}
pub use Rattle.pr_roles.specs.Scenarios.{Scenario, Nexus}
pub use Rattle.pr_roles.specs.declared.item.Item.{Item}
pub use Rattle.pr_roles.specs.declared.parts.Parts.{Parts}
pub use Rattle.pr_roles.specs.Fitting.{Fits, most_declared}
pub use Rattle.pr_audit.specs.Ends.{ending_of}
pub use Rattle.pr_trace.specs.BytesTaken.{bytes_of_lines}
pub use Rattle.pr_trace.specs.EntryWords.{pairs_in}
unfoldable pub use Rattle.pr_output.specs.Printed.{printed_word}
pub use Rattle.pr_output.specs.PrintedLines.{pairs_or_dash}
unfoldable pub use Rattle.pr_output.specs.PrintedLines.{joined_by_spaces, line, pairs}
pub use Rattle.pr_trace.specs.TraceReadings.{and_then, later_lines, items_of, trace_in}
unfoldable pub use Rattle.pr_trace.specs.TraceReadings.{lines, words, item_on, is_later, trace_of}
pub use Rattle.pr_trace.specs.TraceText.{names_in, names_of, name_of, item_lines, held_word, ending_lines}
unfoldable pub use Rattle.pr_trace.specs.TraceText.{first_line, unit_line}
pub use Rattle.pr_trace.specs.Versions.{most_items, has_status}
pub use Rattle.pr_output.specs.Written.{Wrote, FallsShort, Puts}
pub use Rattle.pr_trace.specs.inside.LinesAhead.{bytes_held, bytes_left, Takes, Leads}
pub use Rattle.pr_trace.specs.declared.trace_reading.TheConstants.{MOST_LATER_LINES}
pub use Rattle.pr_trace.specs.declared.ahead.TheConstants.{MOST_LINE_BYTES}
pub use Rattle.pr_script.specs.declared.limits.TheConstants.{MOST_LETTERS}
pub use Rattle.pr_trace.specs.TraceLaws.{IsItem, HasSense}
