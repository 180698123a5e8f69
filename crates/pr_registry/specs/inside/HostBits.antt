-- Sets of nexuses as the bits of a number have them.
use Rattle.std.specs.Prelude.{ℕ, zero, suc, Bool, if◌then◌else◌}
use Rattle.std.specs.FinSet as set
use Rattle.pr_registry.specs.Hosts.{Hosts}

-- the hosts below n that pass the test
unfoldable pub hosts_where : ℕ → (ℕ → Bool) → Hosts
hosts_where zero p = set.empty
hosts_where (suc n) p = if p n then set.insert (hosts_where n p) n else hosts_where n p
