use Rattle.pr_domain.proofs.Common.{◌≡◌, ℕ, take, has_wide, has_reservation}
use Rattle.pr_domain.proofs.starting.reservations.Given as goal

abbrev pub invariant-loop-held : goal.invariant-loop-held
invariant-loop-held l = (x : ℕ) → has_wide l.numbers x ≡ has_reservation l.hosts (take l.held-index l.reservations) x
