use Rattle.std.specs.Prelude.{◌≡◌, ◌+◌, [], length, map, take, false, vec_capacity}
use Rattle.std.specs.List.{All, range_with_len}
use Rattle.pr_roles.specs.Scenarios.{task_of}
use Rattle.pr_world.specs.Rooms.{room_of}
use Rattle.pr_shared.proofs.seating.seats_for.Given as goal

-- those before this one have their seats, and their parts of the share
abbrev pub invariant-loop-host : goal.invariant-loop-host
invariant-loop-host g l = record {
  parts : l.all.parts + l.host ≡ length l.nexuses;
  amount : l.all.amount ≡ 0;
  in_order : map (λ s. s.host) l.seats.items ≡ range_with_len 0 l.host;
  going : All (λ s. s.ended ≡ false) l.seats.items;
  empty : All (λ s. s.mine.items ≡ []) l.seats.items;
  room : map (λ s. vec_capacity s.mine) l.seats.items ≡ map (λ n. room_of (task_of n.task) + 1) (take l.host l.nexuses);
}
