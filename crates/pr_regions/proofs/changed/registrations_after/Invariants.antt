use Rattle.pr_regions.proofs.Common.{◌≡◌, ◌<◌, ℕ, length, MOST_NEXUSES, has_at, IsImage}
use Rattle.pr_regions.specs.Images.{becomes}
use Rattle.pr_regions.proofs.changed.registrations_after.Given as goal

abbrev pub invariant-loop-host : goal.invariant-loop-host
invariant-loop-host l = record {
  done : (g : ℕ) → g < l.host → IsImage (has_at l.words g) (becomes l.from l.change g) (has_at l.after g);
  size : length l.after ≡ MOST_NEXUSES;
}
