use Rattle.pr_interference.proofs.Common.{◌≡◌, ℕ, ◌<◌, true, has, has_at}
use Rattle.pr_interference.proofs.onlooker.Onlooker.having.Given as goal

abbrev pub invariant-loop-host : goal.invariant-loop-host
invariant-loop-host l = (g : ℕ) → g < l.host → has_at l.self.view.registrations g l.key ≡ true → has l.having g ≡ true
