-- The names that most proofs of this crate cite, passed on from one place. Declares nothing.
pub use Rattle.std.proofs.Common.{◌≡◌, ℕ, ◌+◌, ◌-◌, ◌<◌, ◌≤◌, Bool, false, List, [], ◌∷◌, ◌++◌, map, length, take, drop, slice_get, Some, codes, filter, Option, Result, flat_map, sym, refl, ap, ◌∙◌, subst, append-nil, arith}
pub use Rattle.std.specs.List.{range_with_len}
pub use Rattle.pr_registry.specs.declared.held.Held.{Held}
pub use Rattle.pr_registry.specs.declared.held.Held.TheVariants.{One}
pub use Rattle.pr_output.proofs.lemmas.Written.Fronts.{puts_err, front_first, puts_last, front_then, wrote_all, wrote_front, wrote_more}
unfoldable pub use Rattle.pr_roles.specs.Scenarios.{scenario_of}
pub use Rattle.pr_roles.specs.declared.parts.Parts.{Parts}
pub use Rattle.pr_roles.specs.Keys.{key_at}
pub use Rattle.pr_views.specs.Possibilities.{number_of, count_of_attentions}
pub use Rattle.pr_views.specs.Rooms.{view_of}
pub use Rattle.pr_views.specs.Tables.{row_of}
pub use Rattle.pr_report.specs.OutlineText.{free_or_key, codes_in, sends_text}
unfoldable pub use Rattle.pr_report.specs.OutlineText.{registration_line, send_text}
unfoldable pub use Rattle.pr_output.specs.Printed.{printed_word}
pub use Rattle.pr_output.specs.PrintedLines.{attentions_word}
unfoldable pub use Rattle.pr_output.specs.PrintedLines.{joined_by_spaces}
pub use Rattle.pr_trace.specs.TraceText.{names_in, names_of, name_of, held_word}
pub use Rattle.pr_output.specs.Written.{Wrote, FallsShort, Puts}
