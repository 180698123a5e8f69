use Rattle.pr_unit.proofs.lemmas.Steps.WellFormedSteps.{hosts-step}
use Rattle.pr_unit.proofs.laws.steps_keep_hosts.Goals as goal

pub returns : goal.returns
returns c = hosts-step
