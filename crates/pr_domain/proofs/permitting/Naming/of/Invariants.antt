-- The conditions are those of the clauses before this one.
use Rattle.std.proofs.Common.{take}
use Rattle.pr_domain.specs.inside.Permitting.{IsNaming}
use Rattle.pr_domain.proofs.permitting.Naming.of.Given as goal

abbrev pub invariant-loop-clause : goal.invariant-loop-clause
invariant-loop-clause l = IsNaming (take l.clause-index l.clauses) l.command l.naming
