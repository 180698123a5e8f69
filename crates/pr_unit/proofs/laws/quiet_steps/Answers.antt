use Rattle.pr_unit.proofs.lemmas.Steps.QuietSteps.{quiet_steps}
use Rattle.pr_unit.proofs.laws.quiet_steps.Goals as goal

pub returns : goal.returns
returns c = quiet_steps
