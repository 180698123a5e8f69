use Rattle.pr_views.proofs.Common.{◌≡◌, ℕ, ◌<◌, true, contains_at}
use Rattle.pr_views.proofs.sets.are_within.Given as goal

abbrev pub invariant-loop-host : goal.invariant-loop-host
invariant-loop-host g l = (h n : ℕ) → h < l.host → contains_at g.S.ViewSet.members l.sets h n ≡ true → contains_at g.S.ViewSet.members l.others h n ≡ true
