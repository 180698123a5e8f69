use Rattle.pr_interference.proofs.Common.{Any, view_in, Scope, Adds, IsOnlooking, ClauseLeads, ClauseLeaves}
use Rattle.pr_regions.proofs.lemmas.Keeping.Additions.{AnyBelow}
use Rattle.pr_interference.proofs.onlooker.Onlooker.add_role.Given as goal

abbrev pub invariant-loop-clause : goal.invariant-loop-clause
invariant-loop-clause l = (s : Scope) → IsOnlooking s l.self
    → Adds s l.fn.answer l.answer (λ u w. AnyBelow l.clause-index (λ clause. ClauseLeads (view_in s l.self.view) clause l.self.other u w) l.self.clauses.now)
    (λ i. Any (λ clause. ClauseLeaves (view_in s l.self.view) clause l.self.other i) l.self.clauses.now)
