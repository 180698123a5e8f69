-- The names that most proofs of this crate cite, passed on from one place. Declares nothing.
pub use Rattle.std.proofs.Common.{◌≡◌, ℕ, zero, suc, ◌+◌, ◌<◌, ◌≤◌, Bool, true, false, List, [], ◌∷◌, ◌++◌, map, length, get_or, take, if◌then◌else◌, IsTrue, nat_lt, slice_get, slice_set, Some, None, Ok, vec_len, Option, option_map, sym, refl, ap, ◌∙◌, subst, append-nil, arith}
pub use Rattle.std.specs.List.{list_all, range_with_len}
pub use Rattle.std.specs.Option.{option_map_or}
pub use Rattle.std.proofs.Math.ListN.{get_or-map}
pub use Rattle.std.proofs.Math.Seq.{map-set_same}
pub use Rattle.std.proofs.lemmas.Bool.{false≢true}
pub use Rattle.std.proofs.lemmas.Bool.Decides.{nat_tests}
pub use Rattle.std.proofs.lemmas.List.{length-map, map-set}
pub use Rattle.std.proofs.lemmas.Option.{slice_get-map, slice_get-get_or}
unfoldable pub use Rattle.pr_cdb.specs.Spelling.{spelling}
pub use Rattle.pr_cdb.specs.declared.command.Command.{Command}
pub use Rattle.pr_cdb.specs.declared.reply.Reply.{Reply}
pub use Rattle.pr_cdb.specs.declared.wire.Request.{Request}
pub use Rattle.pr_cdb.specs.declared.wire.Request.TheVariants.{Plain}
pub use Rattle.pr_unit.specs.UnitStates.{UnitState}
pub use Rattle.pr_script.specs.Scripts.{ready}
pub use Rattle.pr_roles.specs.Answers.{Answers, may_come}
pub use Rattle.pr_roles.specs.SharedAnswers.{AnswersOn}
pub use Rattle.pr_roles.specs.inside.SharedStates.{AnswersMost}
pub use Rattle.pr_roles.specs.DeclaredRefusals.{how_of}
pub use Rattle.pr_roles.specs.LegalHistories.{IsLegal}
pub use Rattle.pr_roles.specs.Scenarios.{Task, Scripted, Planned, Nexus, role, Scenario, nexus, nexus_of}
unfoldable pub use Rattle.pr_roles.specs.Scenarios.{scenario_of}
pub use Rattle.pr_roles.specs.Worlds.{Control, Going, Trapped, Free, standing_of, control_after, World, control, entry_of, Event, Host, Guest, UnitReset, Fetched, is_guest_task, Happens, control_of, world_from, commands_by}
pub use Rattle.pr_roles.specs.declared.entry.Entry.{Entry}
pub use Rattle.pr_roles.specs.declared.how.How.{How}
pub use Rattle.pr_roles.specs.declared.item.Item.{Item}
pub use Rattle.pr_roles.specs.declared.item.Item.TheVariants.{Sent, Reset}
pub use Rattle.pr_roles.specs.declared.parts.Parts.{Parts}
pub use Rattle.pr_roles.specs.declared.role.Clause.{Clause}
pub use Rattle.pr_audit.specs.Auditors.{control_by, Adds, AddsAfterFetches, IsWorldOf, IsTried, is_free, ActFor, is_planned}
pub use Rattle.pr_audit.specs.inside.Auditing.{IsJudged, Reaches}
