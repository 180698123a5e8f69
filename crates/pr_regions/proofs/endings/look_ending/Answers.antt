use Rattle.pr_regions.proofs.Common.{refl}
use Rattle.pr_unit.specs.declared.demand.Demand.TheVariants.{Look}
use Rattle.pr_regions.proofs.lemmas.Parts.Endings.{same_ends}
use Rattle.pr_regions.proofs.endings.look_ending.Goals as goal

pub returns : goal.returns
returns c = record {
  ends = λ s u command alike m. same_ends s Look c.args.sender.held c.args.sender.number c.args.sender.standing u command c.args.sender.hosts c.no_change.result tt m alike refl refl refl refl c.no_change.ensures.change;
  fits = c.no_change.ensures.room;
}
