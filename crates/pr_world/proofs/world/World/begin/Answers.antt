use Rattle.pr_world.proofs.Common.{◌∙◌, arith}
use Rattle.pr_world.proofs.lemmas.Workings.Reserves.{at_work_at_first, reserved, rooms_are_few}
use Rattle.pr_world.proofs.world.World.begin.Goals as goal

pub room_for-requires : goal.room_for-requires
room_for-requires c =
    let few = rooms_are_few _ _ _ c.parts-parts.ensures.fits c.parts-parts.ensures.value c.deref.ensures.value in omega (arith, few)

pub overflow_add-room : goal.overflow_add-room
overflow_add-room c =
    let few = rooms_are_few _ _ _ c.parts-parts.ensures.fits c.parts-parts.ensures.value c.deref.ensures.value in omega (arith, few)

pub invariant_of-result : goal.invariant_of-result
invariant_of-result c =
    at_work_at_first _ _ _ _ c.scenario-2.ensures.value (reserved _ _ _ _ (c.parts-parts.ensures.value ∙ c.scenario.ensures.value) c.deref.ensures.value c.room_for.ensures)
    c.in-Ok.ensures.reached c.in-Ok.ensures.stands c.in-Ok.ensures.room
