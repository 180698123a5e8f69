use Rattle.pr_sets.proofs.Common.{◌≡◌, ◌+◌, ◌-◌, ◌≤◌, length, numbers_in}
use Rattle.std.proofs.Common.{vec_len, take}
use Rattle.std.specs.FinSet as set
use Rattle.std.specs.Vec.{vec_capacity}
use Rattle.pr_sets.proofs.list_set.ListSetViewSet.join.Given as goal

abbrev pub invariant-loop-n : goal.invariant-loop-n
invariant-loop-n l = record {
  size : l.self.size ≡ l.fn.self.size;
  room : vec_len l.self.numbers + (length l.other.numbers.items - l.n-index) ≤ vec_capacity l.self.numbers;
  members : numbers_in l.self.numbers.items ≡ set.union (numbers_in l.fn.self.numbers.items) (numbers_in (take l.n-index l.other.numbers.items));
}
