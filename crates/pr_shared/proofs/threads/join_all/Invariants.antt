use Rattle.std.specs.Prelude.{◌≡◌, ◌+◌, ◌++◌, map, vec_len, vec_capacity}
use Rattle.std.specs.Vec.Iter.{into_iter_items, into_iter_len}
use Rattle.pr_shared.proofs.threads.join_all.Given as goal

-- those before this one gave their seats back
abbrev pub invariant-loop-handle : goal.invariant-loop-handle
invariant-loop-handle g l = record {
  hosts : map (λ s. s.host) l.back.items ++ map (λ h. h.promise.0) (into_iter_items l.handle-iterator) ≡ map (λ h. h.promise.0) l.fn.started.items;
  len : vec_len l.back + into_iter_len l.handle-iterator ≡ vec_len l.fn.started;
  room : vec_capacity l.back ≡ vec_capacity l.fn.back;
}
