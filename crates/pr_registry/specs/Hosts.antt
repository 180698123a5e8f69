-- Agrees with docs/MODEL.md, 'Nexuses and registrations'.
-- Sets of hosts, and registrations as a set of pairs of a host and its key, at most one for a host.
use Rattle.std.specs.Prelude.{ℕ, Bool, false, not, ◌==◌, Option, Some, None}
use Rattle.std.specs.Ordering.{nat_cmp}
use Rattle.std.specs.FinSet as set
use Rattle.std.specs.FinMap as map

abbrev pub Hosts : Type 0
Hosts = set.FinSet nat_cmp

abbrev pub Keys : Type 0
Keys = map.FinMap nat_cmp ℕ

abbrev pub nobody : Hosts
nobody = set.empty

abbrev pub just : ℕ → Hosts
just h = set.insert set.empty h

-- o is there, and is k
abbrev pub is_key : Option ℕ → ℕ → Bool
is_key None k = false
is_key (Some j) k = j == k

-- the hosts that have a key
unfoldable pub hosts_in : Keys → Hosts
hosts_in keys = set.from_list (map.keys keys)

-- the hosts whose key is k
unfoldable pub hosts_with : Keys → ℕ → Hosts
hosts_with keys k = set.retain (hosts_in keys) (λ h. is_key (map.get keys h) k)

-- no host has the key k
abbrev pub has_no_registrant : Keys → ℕ → Bool
has_no_registrant keys k = set.len (hosts_with keys k) == 0

-- the pairs whose host is not among the removed
unfoldable pub without : Keys → Hosts → Keys
without keys removed = map.retain_keys keys (λ h. not (set.contains removed h))

-- no host has a key
abbrev pub is_empty : Keys → Bool
is_empty keys = map.len keys == 0
