use Rattle.std.specs.Prelude.{◌≡◌, ◌+◌, ◌++◌, map, vec_len, vec_capacity}
use Rattle.std.specs.Vec.Iter.{into_iter_items, into_iter_len}
use Rattle.pr_shared.proofs.threads.start_all.Given as goal

-- those before this seat were started
abbrev pub invariant-loop-seat : goal.invariant-loop-seat
invariant-loop-seat g l = record {
  hosts : map (λ h. h.promise.0) l.started.items ++ map (λ s. s.host) (into_iter_items l.seat-iterator) ≡ map (λ s. s.host) l.fn.seats.items;
  len : vec_len l.started + into_iter_len l.seat-iterator ≡ vec_len l.fn.seats;
  room : vec_capacity l.started ≡ vec_capacity l.fn.started;
}
