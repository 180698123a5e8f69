use Rattle.std.proofs.Common.{ap, ◌∙◌, arith}
use Rattle.std.proofs.lemmas.List.{map-id, map_more}
use Rattle.std.proofs.lemmas.List.Elements.{All-push}
use Rattle.std.proofs.lemmas.List.FromFn.{map-range_with_len_more}
use Rattle.std.specs.Prelude.{◌≡◌, ◌+◌, [], false, vec_capacity}
use Rattle.pr_roles.specs.Scenarios.{task_of}
use Rattle.pr_world.specs.Rooms.{room_of}
use Rattle.pr_shared.proofs.lemmas.Histories.Seats.{both_more}
use Rattle.pr_shared.proofs.seating.seats_for.Goals as goal

pub loop-host-preserved : goal.loop-host-preserved
loop-host-preserved g c =
    let pushed = c.in_ok-push.ensures.items in record {
      parts = omega (arith, c.split_off-share.ensures.parts_left, c.loop-host.invariant.parts);
      amount = omega (arith, c.split_off-share.ensures.amount_left, c.loop-host.invariant.amount);
      in_order = both_more c.loop-host.seats.items _ _ (λ s. s.host) _ _ _ pushed c.in_ok-new.ensures.host (simp map-id at (map-range_with_len_more (λ k. k) 0 c.loop-host.host c.loop-host.host (omega arith)))
          c.loop-host.invariant.in_order;
      going = rw pushed (All-push (λ s. s.ended ≡ false) c.loop-host.seats.items _ c.loop-host.invariant.going c.in_ok-new.ensures.going);
      empty = rw pushed (All-push (λ s. s.mine.items ≡ []) c.loop-host.seats.items _ c.loop-host.invariant.empty c.in_ok-new.ensures.empty);
      room = both_more c.loop-host.seats.items _ _ (λ s. vec_capacity s.mine) _ _ _ pushed (c.in_ok-new.ensures.room ∙ ap (λ n. room_of (task_of n.task) + 1) c.index-nexuses-host.is)
          (map_more (λ n. room_of (task_of n.task) + 1) c.args.nexuses.now c.loop-host.host c.index-nexuses-host.result c.loop-host-test.true) c.loop-host.invariant.room;
    }
