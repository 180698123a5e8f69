use Rattle.pr_domain.proofs.Common.{◌≡◌, ℕ, ◌<◌, ◌≤◌, length, Item, has_tallied}
use Rattle.pr_domain.specs.inside.Twins.{has_with_twin}
use Rattle.pr_domain.proofs.tally.Tally.add_twin.Given as goal

abbrev pub invariant-loop-way : goal.invariant-loop-way
invariant-loop-way l = record {
  done : (w : ℕ) (i : Item) → w < l.way → has_tallied l.self w i ≡ has_with_twin l.fn.self l.twin l.reservation w i;
  rest : (w : ℕ) (i : Item) → l.way ≤ w → has_tallied l.self w i ≡ has_tallied l.fn.self w i;
  size : length l.self.ways ≡ 20;
}
