-- The names that most proofs of this crate cite, passed on from one place. Declares nothing.
pub use Rattle.std.proofs.Common.{◌≡◌, ℕ, zero, suc, ◌+◌, ◌<◌, Bool, true, false, not, ◌&&◌, ◌||◌, List, [], ◌∷◌, length, if◌then◌else◌, IsTrue, nat_lt, ◌==◌, Some, None, Option, sym, refl, ap, ◌∙◌, subst, arith, ◌⊎◌, inl, inr}
pub use Rattle.std.proofs.lemmas.Bool.{false≢true, and_parts}
pub use Rattle.std.proofs.lemmas.Bool.Decides.{nat_tests}
pub use Rattle.std.proofs.Math.Bool.{or-false}
pub use Rattle.std.specs.List.{All}
pub use Rattle.pr_cdb.specs.declared.codes.TheConstants.{MOST_NEXUSES}
pub use Rattle.pr_cdb.specs.declared.command.Command.{Command}
pub use Rattle.pr_cdb.specs.declared.reply.Reply.{Reply}
pub use Rattle.pr_cdb.specs.declared.reply.Sense.{Sense}
pub use Rattle.pr_cdb.specs.declared.wire.Request.{Request}
pub use Rattle.pr_cdb.specs.declared.wire.Request.TheVariants.{Plain, Faulty}
pub use Rattle.pr_cdb.specs.declared.command.Kind.{Kind}
pub use Rattle.pr_attention.specs.Attentions.{code_of, Codes}
pub use Rattle.pr_attention.specs.CodeSets.{no_code, AreAttentions}
pub use Rattle.pr_attention.proofs.lemmas.Sets.{contains-no_code}
pub use Rattle.pr_registry.proofs.lemmas.Sets.{contains-nobody}
pub use Rattle.pr_registry.specs.Changes.{no_change}
pub use Rattle.pr_registry.specs.Hosts.{Hosts}
pub use Rattle.pr_unit.specs.Attentions.{power_on, reservations_preempted, reservations_released, registrations_preempted, Pairs}
pub use Rattle.pr_unit.specs.Tables.{place, table_pairs}
unfoldable pub use Rattle.pr_unit.specs.Attentions.{each_with, hosts_below}
unfoldable pub use Rattle.pr_unit.specs.Tables.{pairs_where}
pub use Rattle.pr_unit.specs.Conduct.{command_fault, conflicts, fault, command_conflicts}
pub use Rattle.pr_unit.specs.Replies.{good, check, report, data_of, is_request_sense}
pub use Rattle.pr_unit.specs.Steps.{last_decision, decision, StepBy, Step}
pub use Rattle.pr_unit.specs.TakenSteps.{ends_good}
pub use Rattle.pr_unit.specs.UnitStates.{UnitState, is_pending, is_any_pending, IsWellFormed, effect, after_report, pending_after}
pub use Rattle.pr_unit.specs.Tables.{unit_of}
pub use Rattle.pr_unit.specs.declared.decision.Decision.{Decision}
pub use Rattle.pr_unit.specs.declared.decision.Decision.TheVariants.{PowerOn, Conflicting, Attention, Done, AtFault}
