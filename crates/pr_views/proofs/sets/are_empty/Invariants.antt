use Rattle.pr_views.proofs.Common.{◌≡◌, ℕ, ◌<◌, false, contains_at}
use Rattle.pr_views.proofs.sets.are_empty.Given as goal

abbrev pub invariant-loop-host : goal.invariant-loop-host
invariant-loop-host g l = (h n : ℕ) → h < l.host → contains_at g.S.ViewSet.members l.sets h n ≡ false
