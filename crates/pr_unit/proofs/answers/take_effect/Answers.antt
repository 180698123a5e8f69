use Rattle.pr_unit.proofs.lemmas.UnitStates.Effects.{tells_below}
use Rattle.pr_unit.proofs.answers.take_effect.Goals as goal

pub tell_change-requires : goal.tell_change-requires
tell_change-requires c = rw (c.apply-change.ensures.change, c.demand_of.ensures) (tells_below c.args.registry.now c.args.host c.args.command c.requires.well_formed)
