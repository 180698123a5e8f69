use Rattle.pr_unit.proofs.Common.{◌≡◌, code_of, table_pairs, each_with, hosts_below}
use Rattle.std.specs.FinSet as set
use Rattle.pr_unit.proofs.pending_table.tell_all.Given as goal

abbrev pub invariant-loop-host : goal.invariant-loop-host
invariant-loop-host l =
    table_pairs l.pendings ≡ set.union (table_pairs l.initial.pendings) (each_with (hosts_below l.host) (code_of l.attention))
