use Rattle.pr_interference.proofs.Common.{◌≡◌, ℕ, ◌<◌, true, ◌≢◌, has, has_at}
use Rattle.pr_interference.proofs.onlooker.Onlooker.may_free.Given as goal

abbrev pub invariant-loop-host : goal.invariant-loop-host
invariant-loop-host l = (g r : ℕ) → g < l.host → g ≢ l.self.other → has_at l.self.view.registrations g r ≡ true → has l.removed r ≡ true → has_at l.answer.registrations g 0 ≡ true
