use Rattle.pr_domain.proofs.Common.{◌≡◌, ℕ, ◌<◌, ◌≤◌, false, length, MOST_NEXUSES, has_at, may_have}
use Rattle.pr_domain.proofs.starting.Owner.registrations.Given as goal

abbrev pub invariant-loop-host : goal.invariant-loop-host
invariant-loop-host l = record {
  done : (g r : ℕ) → g < l.host → has_at l.words g r ≡ may_have l.self.parts.now.keys.items l.nexuses g r;
  past : (g r : ℕ) → l.host ≤ g → has_at l.words g r ≡ false;
  size : length l.words ≡ MOST_NEXUSES;
}
