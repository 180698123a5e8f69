use Rattle.std.proofs.Common.{◌∙◌}
use Rattle.pr_shared.proofs.lemmas.Guests.Nexuses.{number_of_nexuses}
use Rattle.pr_shared.proofs.kept.Kept.of.Goals as goal

pub invariant_of-result : goal.invariant_of-result
invariant_of-result c =
    let room = number_of_nexuses c.in_ok-copy.field-0 _ _ _ c.in_ok-copy.ensures c.parts.ensures.value c.len-nexuses.ensures in
    record {
      no_mine = c.in_ok-with_capacity.ensures.len;
      room_for_mine = c.in_ok-with_capacity.ensures.exact ∙ room;
      no_ends = c.in_ok-with_capacity-2.ensures.len;
      room_for_ends = c.in_ok-with_capacity-2.ensures.exact ∙ room;
    }
