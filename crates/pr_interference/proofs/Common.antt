-- The names that most proofs of this crate cite, passed on from one place. Declares nothing.
pub use Rattle.std.proofs.Common.{◌≡◌, ℕ, zero, suc, ◌+◌, ◌<◌, ◌≤◌, Bool, true, false, not, ◌&&◌, ◌||◌, ◌≢◌, ◌⊎◌, List, [], ◌∷◌, length, if◌then◌else◌, ◌==◌, slice_index_or, bit_or, Some, None, All, Option, sym, refl, ap, ◌∙◌, subst, inl, inr, arith, lt-ltb}
pub use Rattle.std.specs.List.{Any}
pub use Rattle.std.proofs.lemmas.Bool.{false≢true, and_parts, and_from, eq-eqb, eqb-true, or_left}
pub use Rattle.std.proofs.lemmas.Bool.Decides.{eqb_tells, nat_tests}
pub use Rattle.std.proofs.lemmas.List.{get_or_default}
pub use Rattle.pr_sets.specs.Wides.{has_wide}
pub use Rattle.pr_sets.specs.BitSets.{has}
pub use Rattle.pr_sets.specs.declared.bit_set.BitSet.{BitSet}
pub use Rattle.pr_cdb.specs.declared.codes.TheConstants.{MOST_NEXUSES}
pub use Rattle.pr_cdb.specs.declared.command.Command.{Command}
pub use Rattle.pr_cdb.specs.declared.command.Kind.{Kind}
pub use Rattle.pr_cdb.specs.declared.wire.Request.TheVariants.{Plain}
pub use Rattle.pr_registry.specs.Changes.{is_kind, is_told_of_loss, is_held_by_all}
pub use Rattle.pr_registry.specs.Registrations.{State, key_of, is_registered, kind_of, new_reservation, IsKey}
pub use Rattle.pr_registry.specs.declared.held.Held.{Held}
pub use Rattle.pr_registry.specs.declared.held.Held.TheVariants.{One}
pub use Rattle.pr_unit.specs.Laws.{request_looks}
pub use Rattle.pr_unit.specs.UnitStates.{UnitState, effect}
pub use Rattle.pr_unit.proofs.lemmas.UnitStates.AlikeStates.{IsLike}
pub use Rattle.pr_unit.proofs.lemmas.Attentions.ToldAttentions.{is_pending_after, contains-told}
pub use Rattle.pr_script.specs.Grammar.{is_declared}
pub use Rattle.pr_roles.specs.Fitting.{is_action, AreDeclared}
pub use Rattle.pr_roles.specs.Permits.{names, holds}
pub use Rattle.pr_roles.specs.Scenarios.{role}
unfoldable pub use Rattle.pr_roles.specs.Scenarios.{scenario_of}
pub use Rattle.pr_roles.specs.declared.parts.Parts.{Parts}
pub use Rattle.pr_roles.specs.declared.role.Action.{Action}
pub use Rattle.pr_roles.specs.declared.role.Clause.{Clause}
pub use Rattle.pr_views.specs.Portions.{has_at, view_in}
pub use Rattle.pr_views.specs.Possibilities.{Scope, number_of, count_of_reservations, Item, Registration, Reservation, Attentions, IsSo}
pub use Rattle.pr_views.specs.Rooms.{scope_of, view_of, AreInRange}
pub use Rattle.pr_views.specs.Views.{View, IsPossible, Shows, Fits}
pub use Rattle.pr_views.specs.declared.possibilities.Possibilities.{Possibilities}
pub use Rattle.pr_views.proofs.lemmas.Possibilities.Numbers.{one_registration, one_reservation, one_attentions}
pub use Rattle.pr_views.proofs.lemmas.Views.Values.{words_fit}
pub use Rattle.pr_regions.specs.Gathering.{IsAt}
pub use Rattle.pr_regions.specs.Images.{IsImage}
pub use Rattle.pr_regions.specs.Purposes.{number_in, purpose_of, Purpose}
pub use Rattle.pr_regions.specs.Regions.{mark, Changes}
pub use Rattle.pr_regions.specs.declared.place.Place.{Place}
pub use Rattle.pr_regions.specs.declared.region.Branch.{Branch}
pub use Rattle.pr_regions.specs.declared.region.Transition.{Transition}
pub use Rattle.pr_regions.specs.inside.Adding.{Allows, Adds}
pub use Rattle.pr_regions.proofs.lemmas.Keeping.Additions.{adds_nothing, adds_both, IsJoined}
pub use Rattle.pr_regions.proofs.lemmas.Portions.GatheredStates.{same_reservation, few_keys}
pub use Rattle.pr_regions.proofs.lemmas.Showing.AlikeStates.{so_like}
pub use Rattle.pr_regions.proofs.lemmas.Showing.AlikeViews.{IsSame, shows_within, if_ok, same_views}
pub use Rattle.pr_interference.specs.Interference.{IsDone, IsLeft, IsInterference}
pub use Rattle.pr_interference.specs.declared.onlooker.Onlooker.{Onlooker}
pub use Rattle.pr_interference.specs.declared.reach.Reach.{Reach}
pub use Rattle.pr_interference.specs.inside.Clauses.{purpose_of_preempt, purpose_for, StandingLeads, PlaceLeads}
pub use Rattle.pr_interference.specs.inside.Closing.{IsRound, IsWidened, scope_for, view_for}
pub use Rattle.pr_interference.specs.inside.Interfering.{IsWatched, IsOnlooking, IsLedBy, IsLeftBy, ClauseLeads, ClauseLeaves}
pub use Rattle.pr_interference.specs.inside.Marks.{first}
pub use Rattle.pr_roles.specs.declared.limits.TheConstants.{MOST_KEYS, MOST_CLAUSES}
pub use Rattle.pr_views.specs.declared.view.TheConstants.{ATTENTION_SETS, MOST_REGISTRATIONS}
