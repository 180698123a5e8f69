-- The names that most proofs of this crate cite, passed on from one place. Declares nothing.
pub use Rattle.std.proofs.Common.{◌≡◌, ℕ, zero, suc, ◌+◌, ◌<◌, ◌≤◌, Bool, true, false, cond, not, ◌&&◌, ◌||◌, ◌≢◌, ◌⊎◌, List, [], ◌∷◌, ◌++◌, length, get_or, is_some, is_none, if◌then◌else◌, IsTrue, nat_lt, nat_le, ◌==◌, bit_or, Some, None, Option, option_map, unwrap_or, sym, refl, ap, ◌∙◌, subst, inl, inr, arith, lit<, length-append}
pub use Rattle.std.specs.List.{position, list_any, Contains}
pub use Rattle.std.proofs.lemmas.Bool.{not-true, false≢true, eq-eqb, ne_eqb, and_parts}
pub use Rattle.std.proofs.lemmas.Bool.Decides.{nat_tests, eqb_tells}
pub use Rattle.std.proofs.lemmas.List.{get_or_default}
pub use Rattle.std.specs.Option.{option_map_or}
pub use Rattle.pr_sets.specs.BitSets.{has}
pub use Rattle.pr_sets.specs.declared.bit_set.BitSet.{BitSet}
pub use Rattle.pr_sets.specs.Wides.{has_wide}
pub use Rattle.pr_cdb.specs.declared.command.Command.{Command}
pub use Rattle.pr_cdb.specs.declared.command.Command.TheVariants.{ReadKeys}
pub use Rattle.pr_cdb.specs.declared.command.Kind.{Kind}
pub use Rattle.pr_cdb.specs.declared.reply.Sense.{Sense}
pub use Rattle.pr_cdb.specs.declared.codes.TheConstants.{MOST_NEXUSES}
pub use Rattle.pr_attention.specs.Flagged.{codes_of}
pub use Rattle.pr_registry.specs.Changes.{no_change, is_held_by_all, change_on_unregister, is_told_of_loss, is_kind, ReplacesAll, preempt_case}
pub use Rattle.pr_registry.specs.Effects.{held_by_rest}
pub use Rattle.pr_registry.specs.Hosts.{is_key, Hosts, nobody, Keys, without, hosts_with, is_empty}
pub use Rattle.pr_registry.specs.Registrations.{State, is_registered, kind_of, key_of, new_reservation, holds_alone, HasHolder}
pub use Rattle.pr_registry.specs.declared.held.Held.{Held}
pub use Rattle.pr_registry.specs.declared.held.Held.TheVariants.{One, All}
pub use Rattle.pr_registry.proofs.lemmas.Sets.{contains-nobody, get-without, is_empty_from_none}
pub use Rattle.pr_unit.specs.Conduct.{illegal}
pub use Rattle.pr_unit.specs.UnitStates.{UnitState}
pub use Rattle.pr_script.specs.Takes.{matches}
pub use Rattle.pr_script.specs.declared.grammar.TheConstants.{WRITTEN_LENGTH}
pub use Rattle.pr_script.specs.Grammar.{is_declared}
pub use Rattle.pr_views.specs.Portions.{HasSomebody, has_at, view_in}
pub use Rattle.pr_roles.specs.Keys.{key_at}
pub use Rattle.pr_views.specs.Possibilities.{Scope, number_of, IsScope, Registration, IsSo, Reservation, Attentions, Item, count_of_reservations}
pub use Rattle.pr_views.proofs.lemmas.Possibilities.Numbers.{one_registration}
pub use Rattle.pr_views.proofs.lemmas.Rooms.Places.{holds_at-get_or, holds_at_kept}
pub use Rattle.pr_views.specs.Views.{Shows, IsPossible}
pub use Rattle.pr_views.specs.declared.possibilities.Possibilities.{Possibilities}
pub use Rattle.pr_regions.specs.Purposes.{HasNumber, number_in, Purpose}
pub use Rattle.pr_regions.specs.Readings.{IsProperReading}
pub use Rattle.pr_regions.specs.Regions.{Meets, HasRoom, IsInRegion, IsCovered, Ends, filter_of, IsUntestedOrRegistered}
pub use Rattle.pr_regions.specs.declared.purpose.Standing.{Standing}
pub use Rattle.pr_regions.specs.declared.region.Branch.{Branch}
pub use Rattle.pr_regions.specs.declared.region.Transition.{Transition}
pub use Rattle.pr_regions.specs.declared.region.Ending.TheVariants.{Conflict, Fault, Good}
pub use Rattle.pr_regions.specs.Transitions.{Does, never, Audience, tells_nobody, HasThose}
pub use Rattle.pr_regions.specs.inside.Parts.{AlwaysEnds, is_unregistered, holds, any, only, is_of_registrant, told_if, but, another, told_but, tells_of_loss, tells_of_removal, tells_of_replacement, lost_if, is_named, Leaves, EndsIn, Tell}
pub use Rattle.pr_regions.specs.inside.Reads.{IsKnown, answer}
pub use Rattle.pr_roles.specs.declared.limits.TheConstants.{MOST_KEYS}
pub use Rattle.pr_views.specs.declared.view.TheConstants.{ATTENTION_SETS}
pub use Rattle.pr_regions.specs.Images.{IsImage}
pub use Rattle.pr_regions.specs.Keeping.{IsShownSo}
pub use Rattle.pr_regions.specs.declared.place.Place.{Place}
pub use Rattle.pr_regions.specs.declared.region.Region.{Region}
pub use Rattle.pr_regions.specs.inside.Adding.{Adds}
pub use Rattle.pr_regions.specs.inside.Showing.{IsShownBelow}
