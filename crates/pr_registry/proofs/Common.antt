-- The names that most proofs of this crate cite, passed on from one place. Declares nothing.
pub use Rattle.std.proofs.Common.{◌≡◌, ℕ, zero, suc, ◌+◌, ◌<◌, ◌≤◌, Bool, true, false, cond, not, ◌&&◌, List, [], ◌∷◌, length, is_some, if◌then◌else◌, IsTrue, nat_lt, ◌==◌, slice_set, Some, None, Option, sym, refl, ap, ◌∙◌, subst, arith}
pub use Rattle.std.proofs.lemmas.Bool.{false≢true, eqb-true, lt-ltb}
pub use Rattle.std.proofs.lemmas.Bool.Decides.{nat_tests}
pub use Rattle.pr_cdb.specs.declared.codes.TheConstants.{MOST_NEXUSES}
pub use Rattle.pr_registry.specs.Changes.{preempt_case, removed_by_preempt}
pub use Rattle.pr_registry.specs.Hosts.{Hosts, Keys, nobody, just, is_key, is_empty}
unfoldable pub use Rattle.pr_registry.specs.Hosts.{hosts_in, hosts_with}
pub use Rattle.pr_registry.specs.Registrations.{State, is_registered, IsWellFormed}
pub use Rattle.pr_registry.specs.Tables.{table_keys}
unfoldable pub use Rattle.pr_registry.specs.Tables.{map_where}
unfoldable pub use Rattle.pr_registry.specs.inside.HostBits.{hosts_where}
pub use Rattle.pr_registry.specs.inside.TableStates.{state_of}
