-- The names that most proofs of this crate cite, passed on from one place. Declares nothing.
pub use Rattle.std.proofs.Common.{◌≡◌, List, ◌∙◌, ap, ℕ, subst, sym, Option, refl, arith, Some, None, length, drop, Bool, [], ◌∷◌, Result, Ok, Err, ◌+◌, true, ◌++◌, ◌<◌, false, ◌≤◌, zero, suc}
pub use Rattle.std.specs.Io.KnownBytes.{Appends}
pub use Rattle.std.specs.List.{flat_map, range_with_len, slice_get, All}
pub use Rattle.std.specs.Prelude.{map, IfSome, codes, IsErrAnd, option_and_then, replicate, option_map, slice_index_or, is_err}
pub use Rattle.pr_registry.specs.Registrations.{State}
pub use Rattle.pr_output.proofs.lemmas.Written.Fronts.{puts_err, front_first, puts_last, front_then, flat_map_end, flat_map_from, wrote_all, wrote_front, wrote_more}
pub use Rattle.pr_output.specs.Written.{FallsShort, Wrote, Puts}
unfoldable pub use Rattle.pr_roles.specs.Scenarios.{scenario_of}
pub use Rattle.pr_roles.specs.Scenarios.{Scenario, task}
pub use Rattle.pr_roles.specs.Tasks.{has_script}
pub use Rattle.pr_roles.specs.Worlds.{commands_by}
pub use Rattle.pr_roles.specs.declared.parts.Parts.{Parts}
pub use Rattle.pr_text.specs.Reading.{IsWrittenAs}
pub use Rattle.pr_audit.specs.Ends.{ending_of}
pub use Rattle.pr_audit.specs.declared.end.End.{End}
pub use Rattle.pr_explore.specs.declared.endings.Together.{Together}
pub use Rattle.pr_world.specs.Replays.{IsThere}
pub use Rattle.pr_trace.proofs.lemmas.TraceText.Lines.{names_of_scenario}
pub use Rattle.pr_trace.specs.TraceText.{names_of, names_in, name_of}
pub use Rattle.pr_commands.specs.Asked.{asks_from, exits_of}
unfoldable pub use Rattle.pr_commands.specs.Asked.{ask_of}
pub use Rattle.pr_commands.specs.EndsText.{ends_line}
pub use Rattle.pr_commands.specs.Steps.{steps_of}
pub use Rattle.pr_commands.specs.WitnessText.{pending_line}
pub use Rattle.pr_commands.specs.declared.fault.Fault.{Fault}
pub use Rattle.pr_commands.specs.inside.Judgements.{Judgement}
