-- The names that most proofs of this crate cite, passed on from one place. Declares nothing.
pub use Rattle.std.proofs.Common.{refl, ◌∙◌, ◌≡◌, List, Some, arith, ◌<◌, ap, subst, ℕ, length, sym, [], take, ◌∷◌, ◌++◌, Option, ◌+◌, None, below_more}
pub use Rattle.std.proofs.lemmas.Bool.Decides.{nat_tests}
pub use Rattle.std.proofs.lemmas.List.{length-map}
pub use Rattle.std.proofs.lemmas.Option.{same_Some, slice_get_within}
pub use Rattle.std.specs.List.{slice_get}
pub use Rattle.std.specs.Prelude.{map, IfSome}
pub use Rattle.pr_unit.specs.UnitStates.{UnitState}
unfoldable pub use Rattle.pr_roles.specs.Scenarios.{scenario_of}
pub use Rattle.pr_roles.specs.Scenarios.{Scenario}
pub use Rattle.pr_roles.specs.Starts.{IsAllowedStart}
pub use Rattle.pr_roles.specs.Worlds.{World}
pub use Rattle.pr_roles.specs.declared.item.Item.{Item}
pub use Rattle.pr_roles.specs.declared.parts.Parts.{Parts}
pub use Rattle.pr_audit.proofs.lemmas.Auditors.Admissions.{within_parts}
pub use Rattle.pr_audit.specs.Auditors.{world_at, ActFor}
pub use Rattle.pr_audit.specs.Ends.{ending_of}
pub use Rattle.pr_audit.specs.declared.end.End.{End}
pub use Rattle.pr_witness.specs.CertifiedRuns.{IsRunOf}
pub use Rattle.pr_witness.specs.inside.Starting.{MayStartBelow}
