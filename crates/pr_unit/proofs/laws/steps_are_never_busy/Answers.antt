use Rattle.pr_unit.proofs.lemmas.Steps.Statuses.{steps_are_never_busy}
use Rattle.pr_unit.proofs.laws.steps_are_never_busy.Goals as goal

pub returns : goal.returns
returns c = steps_are_never_busy
