-- The names that most proofs of this crate cite, passed on from one place. Declares nothing.
pub use Rattle.std.proofs.Common.{◌≡◌, ℕ, zero, suc, ◌+◌, ◌<◌, ◌≤◌, min, Bool, true, false, ◌&&◌, ◌≢◌, ◌⊎◌, ◌↔◌, List, [], ◌∷◌, ◌++◌, map, length, get_or, take, drop, is_some, IfErr, if◌then◌else◌, IsTrue, nat_lt, nat_le, ◌==◌, slice_get, slice_index_or, slice_set, Some, None, Ok, Err, vec_len, All, Contains, Option, Result, Vec, AllPairs, option_and_then, Global, sym, refl, ap, ◌∙◌, subst, inl, inr, arith, length-set, get_or-set_same, rules, ltb-true, leb-true, below_more}
pub use Rattle.std.specs.List.{AllWithin, AllZip, Any}
pub use Rattle.std.specs.Option.{option_map_or}
pub use Rattle.std.specs.Vec.Iter.{into_iter_items}
pub use Rattle.std.proofs.lemmas.Bool.{false≢true, cases_lt, and_parts, cases_order, cases_eq}
pub use Rattle.std.proofs.lemmas.Bool.Decides.{eqb_tells}
pub use Rattle.std.proofs.lemmas.List.{length-map, get_or_default, get_or-map}
pub use Rattle.std.proofs.lemmas.List.Elements.{at_read, AllWithin-none, AllWithin-more, All-nil, All-cons, All-append, All-map, All-contains, Contains-append_left, Contains-append_right, Contains-append_cases}
pub use Rattle.std.proofs.lemmas.List.Quantifiers.{position-Some}
pub use Rattle.std.proofs.lemmas.Option.{none-some, same_Some, slice_get_within, slice_get-get_or, slice_get_read, get_or_from_slice_get}
pub use Rattle.std.proofs.lemmas.Result.{err_from_is_err_and}
pub use Rattle.std.proofs.lemmas.Simd.{map-map}
pub use Rattle.pr_cdb.specs.declared.command.Command.{Command}
pub use Rattle.pr_cdb.specs.declared.reply.Reply.{Reply}
pub use Rattle.pr_cdb.specs.declared.wire.Request.TheVariants.{Plain}
pub use Rattle.pr_unit.specs.Steps.{Step}
pub use Rattle.pr_unit.specs.UnitStates.{UnitState}
pub use Rattle.pr_script.specs.Costs.{cost_of_all}
pub use Rattle.pr_script.specs.Grammar.{rise_above, script_fits}
pub use Rattle.pr_script.specs.Scripts.{Stmt, sends, repeats, stops, Stmts, none, more, Arms, no_arm, arm, Configuration}
unfoldable pub use Rattle.pr_script.specs.Scripts.{settled_form}
pub use Rattle.pr_script.specs.Takes.{matches}
pub use Rattle.pr_script.specs.Trees.{statements_in, script_of}
pub use Rattle.pr_script.specs.declared.script.Test.{Test}
pub use Rattle.pr_script.specs.inside.ArmLists.{arms_in}
pub use Rattle.pr_script.specs.declared.landing.Class.{Class}
pub use Rattle.pr_script.specs.declared.landing.Landing.{Landing}
pub use Rattle.pr_script.specs.declared.landing.Landing.TheVariants.{NoArm, Arm}
pub use Rattle.pr_roles.specs.Answers.{Answers}
pub use Rattle.pr_roles.specs.DeclaredRefusals.{Answered, refusals_of}
pub use Rattle.pr_roles.specs.Permits.{command_permitted}
unfoldable pub use Rattle.pr_roles.specs.Safety.{IsSafe}
pub use Rattle.pr_roles.specs.Scenarios.{Task, Scripted, role, task, Scenario, task_of}
unfoldable pub use Rattle.pr_roles.specs.Scenarios.{scenario_of}
pub use Rattle.pr_roles.specs.Starts.{IsAllowedStart}
pub use Rattle.pr_roles.specs.Worlds.{World, control, Host, world_from}
pub use Rattle.pr_roles.specs.declared.how.How.{How}
pub use Rattle.pr_roles.specs.declared.how.Refusals.{Refusals}
pub use Rattle.pr_roles.proofs.lemmas.FirstStarts.Existence.{slice_get_contains}
pub use Rattle.pr_views.specs.Possibilities.{Scope, IsScope, Item, Registration, Reservation, Attentions, IsSo}
pub use Rattle.pr_views.specs.Rooms.{scope_of, view_of, AreAlike}
pub use Rattle.pr_views.specs.Views.{View, IsPossible, Shows, Fits, Within}
pub use Rattle.pr_views.proofs.lemmas.Views.ShownStates.{shown_within}
pub use Rattle.pr_views.proofs.lemmas.Views.Values.{same_view}
pub use Rattle.pr_domain.specs.Landings.{IsLanding}
pub use Rattle.pr_domain.specs.Outcomes.{Outcome, IsExpected, AreOutcomes}
pub use Rattle.pr_domain.specs.Starting.{IsOfStart}
pub use Rattle.pr_domain.proofs.lemmas.Starting.WrittenNumbers.{are_counted}
pub use Rattle.pr_domain.specs.Permission.{IsPermittedIn, IsRefusedIn}
pub use Rattle.pr_interference.specs.Interference.{IsDone, Becomes, by_another, by_reset, IsClosed, IsClosure}
pub use Rattle.pr_verify.specs.LeastOutlines.{IsWithinIn, IsNoMore, IsLeastSound}
pub use Rattle.pr_views.specs.Tables.{Outline, outline_of, row_of}
pub use Rattle.pr_verify.specs.Outlines.{view_at, ShowsIn, IsShownAt, scope_in, IsOfScenario, StartsAt, ComesTo, IsLeftAt, IsAsked, at_start, by_itself, by_others, IsListed, IsSound, KeepsToRole, IsFitting, HasOutline, OnScripted, HaveOutlines, SendsFit}
pub use Rattle.pr_verify.specs.Places.{out_of, head_of, head_of_all, first_of, round, Place, tests_of, next_of, place, places_in, places, places_of_arms, places_of, first_lines, follows}
pub use Rattle.pr_verify.specs.Refusals.{first_difference, BreaksRole, class_number, FitsAt, IsRefusal}
pub use Rattle.pr_roles.specs.Tasks.{IsScripted}
pub use Rattle.pr_verify.specs.Rooms.{IsMadeFor}
pub use Rattle.pr_verify.specs.Tables.{IsRow}
pub use Rattle.pr_verify.specs.Verdicts.{IsVerdict}
pub use Rattle.pr_verify.specs.declared.inferring.Inference.{Inference}
pub use Rattle.pr_verify.specs.declared.known.Answer.{Answer}
pub use Rattle.pr_verify.specs.declared.known.Closing.{Closing}
pub use Rattle.pr_verify.specs.declared.places.Spot.{Spot}
pub use Rattle.pr_roles.specs.declared.refusal.Refusal.{Refusal}
pub use Rattle.pr_verify.specs.declared.sketch.Sketch.{Sketch}
pub use Rattle.pr_verify.specs.inside.Asked.{asker_of}
pub use Rattle.pr_verify.specs.inside.Checks.{IsAnswerFor, IsBegunFor, IsCheckFor, EachFrom, IsAnswerBefore}
pub use Rattle.pr_verify.specs.inside.Gaining.{Has, IsAtRest, Gains, Reaches, IsLanded, ReachesNext}
pub use Rattle.pr_verify.specs.inside.Inferring.{AreOf, GoesOn, IsViewIn, IsSketch}
pub use Rattle.pr_verify.specs.inside.Kept.{KeptView, KeptOutline, IsOf, IsMadeAs}
pub use Rattle.pr_verify.specs.inside.Known.{Asker, asker_in, AreAnswers, IsAnswerAt, StandsAt, IsClosing, AreEqual, AreKnown}
pub use Rattle.pr_verify.specs.inside.Lacking.{HasAll, Lacks, IsFirstLacking, HasView, LacksView, lines_after}
pub use Rattle.pr_verify.specs.inside.Least.{IsLeast, least, IsLeastAmong}
pub use Rattle.pr_verify.specs.inside.Listing.{place_of, IsPlaceWritten, AreWritten}
unfoldable pub use Rattle.pr_verify.specs.inside.Listing.{AreInRange}
pub use Rattle.pr_verify.specs.inside.Reviewing.{IsFirstUnarmed}
pub use Rattle.pr_verify.specs.inside.Tabling.{IsInRange}
pub use Rattle.pr_verify.specs.inside.Underway.{outline_of_sketch, IsSettled}
pub use Rattle.pr_script.specs.declared.limits.TheConstants.{MOST_ARMS}
