use Rattle.pr_regions.proofs.Common.{◌≡◌, ◌<◌, ◌≤◌, ℕ, false, ◌&&◌, length, has, MOST_NEXUSES, has_at}
use Rattle.pr_regions.proofs.place.Place.left.Given as goal

abbrev pub invariant-loop-host : goal.invariant-loop-host
invariant-loop-host l = record {
  done : (g r : ℕ) → g < l.host → has_at l.words g r ≡ (has_at l.view.registrations g r && has l.region.others r);
  past : (g r : ℕ) → l.host ≤ g → has_at l.words g r ≡ false;
  size : length l.words ≡ MOST_NEXUSES;
}
