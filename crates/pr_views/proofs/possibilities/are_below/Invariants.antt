use Rattle.pr_views.proofs.Common.{◌≡◌, ℕ, ◌<◌, true, has_at}
use Rattle.pr_views.proofs.possibilities.are_below.Given as goal

abbrev pub invariant-loop-host : goal.invariant-loop-host
invariant-loop-host l = (h n : ℕ) → h < l.host → has_at l.sets h n ≡ true → n < l.size
