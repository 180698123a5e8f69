use Rattle.std.specs.FinSet as set
use Rattle.pr_sets.proofs.Common.{has_wide, numbers_in}
use Rattle.pr_sets.proofs.lemmas.Fronts.{IsFront}
use Rattle.pr_sets.proofs.list_set.ListSetViewSet.wide.Given as goal

abbrev pub invariant-loop-n : goal.invariant-loop-n
invariant-loop-n l = IsFront (has_wide l.word) (set.contains (numbers_in l.self.numbers.items)) l.n
