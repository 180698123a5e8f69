use Rattle.std.specs.Prelude.{◌≡◌, ◌+◌, ◌++◌, map, vec_len, vec_capacity}
use Rattle.std.specs.List.{sum_by}
use Rattle.std.specs.Vec.Iter.{into_iter_items, into_iter_len}
use Rattle.pr_shared.proofs.gathering.gathered.Given as goal

-- those before this one have given what they have
abbrev pub invariant-loop-seat : goal.invariant-loop-seat
invariant-loop-seat g l = record {
  mine : map (λ m. m.items) l.lists.items ++ map (λ s. s.mine.items) (into_iter_items l.seat-iterator) ≡ map (λ s. s.mine.items) l.fn.seats.items;
  len : vec_len l.lists + into_iter_len l.seat-iterator ≡ vec_len l.fn.seats;
  room : vec_capacity l.lists ≡ vec_capacity l.fn.lists;
  parts : l.all.parts + into_iter_len l.seat-iterator ≡ l.fn.all.parts + vec_len l.fn.seats;
  amount : l.all.amount + sum_by (λ s. vec_len s.mine) (into_iter_items l.seat-iterator) ≡ l.fn.all.amount + sum_by (λ s. vec_len s.mine) l.fn.seats.items;
}
