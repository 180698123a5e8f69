use Rattle.pr_registry.proofs.Common.{◌≡◌, hosts_where}
use Rattle.pr_registry.proofs.lemmas.Tables.{has_key}
use Rattle.pr_registry.proofs.table.hosts_with.Given as goal

abbrev pub invariant-loop-host : goal.invariant-loop-host
invariant-loop-host l = l.hosts ≡ hosts_where l.host (has_key l.slots l.key)
