use Rattle.pr_views.proofs.Common.{◌≡◌, ℕ, ◌<◌, ◌≤◌, false, has_at, contains_at}
use Rattle.std.specs.List.{All}
use Rattle.pr_views.proofs.sets.sets_of.Given as goal

abbrev pub invariant-loop-host : goal.invariant-loop-host
invariant-loop-host g l = record {
  room : All (λ s. g.S.ViewSet.room s ≡ l.size) l.sets;
  members : (h n : ℕ) → h < l.host → contains_at g.S.ViewSet.members l.sets h n ≡ has_at l.words h n;
  past : (h n : ℕ) → l.host ≤ h → contains_at g.S.ViewSet.members l.sets h n ≡ false;
}
