use Rattle.pr_registry.proofs.Common.{◌≡◌, MOST_NEXUSES, table_keys, hosts_where}
use Rattle.std.specs.FinMap as map
use Rattle.pr_registry.proofs.table.registrants.Given as goal

abbrev pub invariant-loop-host : goal.invariant-loop-host
invariant-loop-host l = l.hosts ≡ hosts_where l.host (map.contains_key (table_keys MOST_NEXUSES l.slots))
