-- The names that most proofs of this crate cite, passed on from one place. Declares nothing.
pub use Rattle.std.proofs.Common.{◌≡◌, ℕ, zero, suc, ◌+◌, ◌-◌, ◌*◌, ◌<◌, ◌≤◌, Bool, true, false, not, ◌&&◌, ◌||◌, ◌≢◌, ◌⊎◌, ◌↔◌, List, [], ◌∷◌, map, length, get_or, take, is_some, IfSome, IfNone, if◌then◌else◌, IsTrue, nat_lt, ◌==◌, slice_get, slice_set, Some, None, All, Contains, Option, option_map, sym, refl, ap, ◌∙◌, subst, inl, inr, arith, lit<, rules}
pub use Rattle.std.specs.List.{Any, list_any, list_all, AllZip}
pub use Rattle.std.specs.Option.{option_map_or}
pub use Rattle.std.proofs.lemmas.Bool.{false≢true, not-true, cases_lt, and_parts, cases_order, cases_eq, or_cases, and_from, or_left, or_right, eq-eqb, eqb-true}
pub use Rattle.std.proofs.lemmas.Bool.Decides.{eqb_tells, nat_tests}
pub use Rattle.std.proofs.lemmas.Option.{same_Some, slice_get_within, slice_get-get_or, get_or_from_slice_get}
pub use Rattle.pr_sets.specs.Wides.{has_wide}
pub use Rattle.pr_sets.specs.BitSets.{has}
pub use Rattle.pr_sets.specs.declared.bit_set.BitSet.{BitSet}
pub use Rattle.pr_cdb.specs.declared.codes.TheConstants.{MOST_NEXUSES}
pub use Rattle.pr_cdb.specs.declared.command.Command.{Command}
pub use Rattle.pr_cdb.specs.declared.reply.Reply.{Reply}
pub use Rattle.pr_cdb.specs.declared.reply.Sense.{Sense}
pub use Rattle.pr_cdb.specs.declared.wire.Request.TheVariants.{Plain}
pub use Rattle.pr_attention.specs.Attentions.{power_on, code_of}
unfoldable pub use Rattle.pr_attention.specs.Flagged.{codes_of}
pub use Rattle.pr_attention.specs.declared.attention.Attention.{Attention}
pub use Rattle.pr_attention.specs.declared.attention.Attention.TheVariants.{PowerOn}
pub use Rattle.pr_registry.specs.Registrations.{State, key_of}
pub use Rattle.pr_registry.specs.declared.held.Held.{Held}
pub use Rattle.pr_registry.specs.declared.held.Held.TheVariants.{One}
pub use Rattle.pr_unit.specs.Conduct.{command_conflicts, command_fault}
pub use Rattle.pr_unit.specs.Demands.{is_not_admitted}
pub use Rattle.pr_unit.specs.Replies.{good, check, conflict, report, data_of}
pub use Rattle.pr_unit.specs.Steps.{Step}
pub use Rattle.pr_unit.specs.UnitStates.{UnitState, is_pending, is_any_pending, IsWellFormed, effect, after_report}
pub use Rattle.pr_script.specs.Grammar.{is_written, test_fits}
pub use Rattle.pr_script.specs.Takes.{matches}
pub use Rattle.pr_script.specs.declared.script.Test.{Test}
pub use Rattle.pr_script.specs.declared.landing.Class.{Class}
pub use Rattle.pr_script.specs.declared.landing.Class.TheVariants.{Good}
pub use Rattle.pr_script.specs.declared.landing.Landing.{Landing}
pub use Rattle.pr_roles.specs.DeclaredRefusals.{Answered}
pub use Rattle.pr_roles.specs.Fitting.{is_reservation, AreDeclared}
pub use Rattle.pr_roles.specs.Scenarios.{Scenario, nexus}
unfoldable pub use Rattle.pr_roles.specs.Scenarios.{scenario_of}
pub use Rattle.pr_roles.specs.declared.how.Refusals.{Refusals}
pub use Rattle.pr_views.specs.Portions.{has_at, view_in}
pub use Rattle.pr_roles.specs.Keys.{key_at}
pub use Rattle.pr_views.specs.Possibilities.{Scope, number_of, count_of_reservations, Item, Registration, Reservation, Attentions, IsSo}
pub use Rattle.pr_views.specs.Rooms.{scope_of, view_of, AreInRange}
pub use Rattle.pr_views.specs.Views.{View, IsPossible, Shows, Within}
pub use Rattle.pr_views.specs.declared.possibilities.Possibilities.{Possibilities}
pub use Rattle.pr_views.specs.declared.view.ViewOf.{ViewOf}
pub use Rattle.pr_views.proofs.lemmas.Possibilities.Numbers.{reservation_of, one_registration}
pub use Rattle.pr_views.proofs.lemmas.Rooms.Places.{holds_at-get_or}
pub use Rattle.pr_regions.specs.Gathering.{IsPlace, IsUniform, IsAt}
pub use Rattle.pr_regions.specs.Purposes.{purpose_of}
pub use Rattle.pr_regions.specs.Readings.{first_test}
pub use Rattle.pr_regions.specs.Regions.{standing_of, AreBranches}
pub use Rattle.pr_regions.specs.declared.place.Place.{Place}
pub use Rattle.pr_regions.specs.declared.region.Branch.{Branch}
pub use Rattle.pr_regions.specs.declared.region.Reading.{Reading}
pub use Rattle.pr_regions.specs.declared.region.Region.{Region}
pub use Rattle.pr_regions.specs.declared.region.Transition.{Transition}
pub use Rattle.pr_regions.proofs.lemmas.Portions.GatheredStates.{same_reservation}
pub use Rattle.pr_regions.proofs.lemmas.Showing.AlikeViews.{IsSame}
pub use Rattle.pr_domain.specs.Landings.{IsClass, IsLanding}
pub use Rattle.pr_domain.specs.declared.reporting.Unserved.{Unserved}
pub use Rattle.pr_domain.specs.declared.tally.Tally.{Tally}
pub use Rattle.pr_domain.specs.inside.Beginning.{may_have, has_reservation, AreAlternatives}
pub use Rattle.pr_domain.specs.inside.Reporting.{AreReported, HasOutcome, AreKept, AreMore, HasWords, Ending, Reports, Conflicts, Fails, EndsGood, Refuses, refusal, MayReport, Ends, landing_at, LandsBy, LandsSomehow, LandsGood, IsOfWay}
pub use Rattle.pr_domain.specs.inside.Sendings.{scope_of_sending, view_of_sending, IsOfWayAt, LandsOf}
pub use Rattle.pr_domain.specs.inside.Tallies.{IsRegistered, has_part, has_tallied, arm_of, Leaves, IsFound, Grows, IsRight, IsTally, HasBoth, HasOneOf, IsUnder, IsReserved, IsOwners, scope_at, IsOfScope, IsReadAt, way_for}
pub use Rattle.pr_views.specs.declared.view.TheConstants.{ATTENTION_SETS, MOST_REGISTRATIONS}
pub use Rattle.pr_script.specs.declared.limits.TheConstants.{MOST_ARMS}
pub use Rattle.pr_roles.specs.declared.limits.TheConstants.{MOST_KEYS}
