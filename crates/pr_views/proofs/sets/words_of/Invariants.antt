use Rattle.pr_views.proofs.Common.{◌≡◌, ℕ, ◌<◌, ◌≤◌, false, length, has_at, contains_at}
use Rattle.pr_cdb.specs.declared.codes.TheConstants.{MOST_NEXUSES}
use Rattle.pr_views.proofs.sets.words_of.Given as goal

abbrev pub invariant-loop-host : goal.invariant-loop-host
invariant-loop-host g l = record {
  whole : length l.words ≡ MOST_NEXUSES;
  there : (h n : ℕ) → h < l.host → has_at l.words h n ≡ contains_at g.S.ViewSet.members l.sets h n;
  past : (h n : ℕ) → l.host ≤ h → has_at l.words h n ≡ false;
}
