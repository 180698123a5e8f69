use Rattle.pr_interference.proofs.Common.{ℕ, ◌<◌, view_in, Scope, Adds, PlaceLeads, IsOnlooking, ClauseLeaves}
use Rattle.pr_interference.proofs.onlooker.Onlooker.add_clause.Given as goal

abbrev pub invariant-loop-reservation : goal.invariant-loop-reservation
invariant-loop-reservation l = (s : Scope) → IsOnlooking s l.self
    → Adds s l.fn.answer l.answer (λ u w. (x : ℕ) × (x < l.reservation) × PlaceLeads (view_in s l.self.view) l.clause l.self.other x u w) (ClauseLeaves (view_in s l.self.view) l.clause l.self.other)
