use Rattle.pr_views.proofs.Common.{◌≡◌, ℕ, ◌<◌, ◌≤◌, ◌||◌, has_at}
use Rattle.pr_views.proofs.possibilities.Possibilities.join.Given as goal

abbrev pub invariant-loop-host : goal.invariant-loop-host
invariant-loop-host l = record {
  joined : (g r : ℕ) → g < l.host → has_at l.self.registrations g r ≡ (has_at l.fn.self.registrations g r || has_at l.other.registrations g r);
  past : (g r : ℕ) → l.host ≤ g → has_at l.self.registrations g r ≡ has_at l.fn.self.registrations g r;
  reservations : l.self.reservations ≡ l.fn.self.reservations;
  pending : l.self.pending ≡ l.fn.self.pending;
}
