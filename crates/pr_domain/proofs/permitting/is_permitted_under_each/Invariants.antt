use Rattle.pr_domain.proofs.Common.{ℕ, ◌<◌}
use Rattle.pr_domain.specs.inside.Permitting.{ArePermitted, view_of_asker}
use Rattle.pr_domain.proofs.permitting.is_permitted_under_each.Given as goal

abbrev pub invariant-loop-reservation : goal.invariant-loop-reservation
invariant-loop-reservation l = (x : ℕ) → x < l.reservation → ArePermitted (view_of_asker l.asked l.hosts l.sender l.view) l.clauses l.asked.command x
