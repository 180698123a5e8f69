use Rattle.pr_unit.proofs.lemmas.Attentions.Resets.{pending-reset}
use Rattle.pr_unit.proofs.laws.resets_tell_each.Goals as goal

pub returns : goal.returns
returns c = pending-reset
