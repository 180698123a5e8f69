use Rattle.pr_unit.proofs.Common.{code_of, table_pairs}
use Rattle.pr_unit.proofs.lemmas.Attentions.Pairs.{IsToldBelow}
use Rattle.pr_unit.proofs.pending_table.tell.Given as goal

abbrev pub invariant-loop-host : goal.invariant-loop-host
invariant-loop-host l = IsToldBelow (table_pairs l.initial.pendings) (table_pairs l.pendings) l.hosts (code_of l.attention) l.host
