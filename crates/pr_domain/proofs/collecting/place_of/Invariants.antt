use Rattle.pr_domain.proofs.Common.{ℕ, ◌<◌, ◌≢◌, slice_get, Some, Possibilities}
use Rattle.pr_domain.proofs.collecting.place_of.Given as goal

-- no outcome before this one has the landing
abbrev pub invariant-loop-place : goal.invariant-loop-place
invariant-loop-place l = (k : ℕ) (p : Possibilities) → k < l.place → slice_get l.outcomes k ≢ Some (l.landing, p)
