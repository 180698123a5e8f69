use Rattle.pr_unit.proofs.lemmas.Attentions.Resets.{well_formed-reset}
use Rattle.pr_unit.proofs.laws.resets_are_well_formed.Goals as goal

pub returns : goal.returns
returns c = well_formed-reset
