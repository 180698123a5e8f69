-- The names that most proofs of this crate cite, passed on from one place. Declares nothing.
pub use Rattle.std.proofs.Common.{◌≡◌, ℕ, zero, suc, ◌+◌, ◌<◌, ◌≤◌, Bool, true, false, cond, not, ◌&&◌, ◌⊎◌, List, [], ◌∷◌, map, length, take, is_some, nat_lt, nat_le, ◌==◌, slice_get, slice_index_or, Some, None, Contains, Option, option_map, bytes_eq, sym, refl, ap, ◌∙◌, subst, inl, inr, arith, rules, ◌++◌, IsTrue, ◌||◌}
pub use Rattle.std.specs.List.{list_all, list_any}
pub use Rattle.std.proofs.lemmas.Bool.{false≢true, and_parts}
pub use Rattle.std.proofs.lemmas.Bool.Decides.{nat_tests}
pub use Rattle.std.proofs.lemmas.Option.{none-some, same_Some, slice_get-map, slice_get_within}
pub use Rattle.std.proofs.lemmas.List.{length-map}
pub use Rattle.std.proofs.lemmas.List.Sums.{sum_by_push}
pub use Rattle.std.proofs.lemmas.Slice.Eq.{slice_eq-Decides}
pub use Rattle.std.specs.Option.{option_map_or}
pub use Rattle.pr_cdb.specs.declared.command.Command.{Command}
pub use Rattle.pr_cdb.specs.declared.command.Kind.{Kind}
pub use Rattle.pr_cdb.specs.declared.reply.Reply.{Reply}
pub use Rattle.pr_registry.specs.Registrations.{IsKey}
pub use Rattle.pr_registry.specs.declared.held.Held.{Held}
pub use Rattle.pr_registry.specs.declared.held.Held.TheVariants.{One, All}
pub use Rattle.pr_unit.specs.UnitStates.{UnitState}
pub use Rattle.pr_unit.specs.Tables.{quiet_unit}
pub use Rattle.pr_roles.specs.FirstStarts.{Starts, first_of, first_key, keys_under, first_under}
pub use Rattle.pr_roles.specs.Fitting.{are_distinct, Fits}
pub use Rattle.pr_roles.specs.Scenarios.{Nexus, Scenario, nexus_of, Task, nexus, task}
unfoldable pub use Rattle.pr_roles.specs.Scenarios.{scenario_of}
pub use Rattle.pr_roles.specs.Worlds.{world_from, World, Run, Event, Host}
pub use Rattle.pr_roles.specs.inside.StoredStarts.{start_of}
pub use Rattle.pr_roles.specs.declared.entry.Entry.{Entry}
pub use Rattle.pr_roles.specs.declared.how.How.{How}
pub use Rattle.pr_roles.specs.declared.item.Item.{Item}
pub use Rattle.pr_roles.specs.declared.parts.Parts.{Parts}
