-- The names that most proofs of this crate cite, passed on from one place. Declares nothing.
pub use Rattle.std.proofs.Common.{◌≡◌, ℕ, zero, suc, ◌+◌, ◌-◌, ◌*◌, ◌/◌, ◌%◌, ◌<◌, ◌≤◌, Bool, true, false, cond, not, ◌&&◌, ◌||◌, ◌≢◌, ◌⊎◌, ◌↔◌, List, [], ◌∷◌, ◌++◌, length, take, is_some, IfSome, IfNone, if◌then◌else◌, IsTrue, nat_lt, nat_le, ◌==◌, slice_index_or, slice_set, Some, None, Option, option_map, sym, refl, ap, ◌∙◌, subst, inl, inr, one-add, arith, lit<, length-set, rules}
pub use Rattle.std.specs.List.{slice_get}
pub use Rattle.std.specs.Option.{option_map_or}
pub use Rattle.std.proofs.lemmas.Bool.{lt-ltb, le-ltb, false≢true, and_parts, ltb-true, cases_lt}
pub use Rattle.std.proofs.lemmas.Bool.Decides.{nat_tests}
pub use Rattle.pr_sets.specs.Wides.{has_wide}
pub use Rattle.pr_sets.specs.BitSets.{has}
pub use Rattle.pr_sets.specs.declared.bit_set.BitSet.{BitSet}
pub use Rattle.pr_registry.specs.Registrations.{is_all}
pub use Rattle.pr_registry.specs.declared.held.Held.{Held}
pub use Rattle.pr_registry.specs.declared.held.Held.TheVariants.{One, All}
pub use Rattle.pr_registry.proofs.lemmas.Sets.{contains-nobody}
pub use Rattle.pr_unit.specs.UnitStates.{UnitState}
pub use Rattle.pr_roles.specs.Fitting.{AreDeclared, is_reservation}
pub use Rattle.pr_views.specs.Portions.{has_at, contains_at, AreFilled}
pub use Rattle.pr_views.specs.Possibilities.{Registration, Reservation, Attentions, IsSo}
pub use Rattle.pr_views.specs.Views.{Fits}
pub use Rattle.pr_roles.specs.declared.limits.TheConstants.{MOST_KEYS}
