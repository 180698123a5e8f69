use Rattle.pr_registry.proofs.Common.{◌≡◌, ℕ, None, sym, subst, MOST_NEXUSES, IsWellFormed, state_of}
use Rattle.pr_registry.specs.Tables.{empty_registry}
use Rattle.pr_registry.proofs.lemmas.States.{well_formed-fresh, nones, table_keys-none}
use Rattle.pr_registry.proofs.registry.Registry.new.Goals as goal

is_fresh : (hosts : ℕ) → state_of hosts (nones MOST_NEXUSES) None 0 ≡ empty_registry hosts
is_fresh hosts = λ i. record { hosts = hosts; keys = table_keys-none i; held = None; generation = 0 }

pub invariant_of-result : goal.invariant_of-result
invariant_of-result c = subst IsWellFormed (sym (is_fresh c.args.hosts)) (well_formed-fresh c.args.hosts c.requires.some c.requires.most)

pub returns : goal.returns
returns c = is_fresh c.args.hosts
