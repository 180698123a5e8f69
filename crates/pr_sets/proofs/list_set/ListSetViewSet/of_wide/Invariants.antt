use Rattle.pr_sets.proofs.Common.{has_wide, numbers_in}
use Rattle.std.specs.Prelude.{◌≡◌}
use Rattle.std.specs.FinSet as set
use Rattle.pr_sets.proofs.lemmas.Fronts.{IsFront}
use Rattle.pr_sets.proofs.list_set.ListSetViewSet.of_wide.Given as goal

abbrev pub invariant-loop-n : goal.invariant-loop-n
invariant-loop-n l = record {
  room : l.list.size ≡ l.size;
  members : IsFront (set.contains (numbers_in l.list.numbers.items)) (has_wide l.word) l.n;
}
