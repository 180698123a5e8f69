use Rattle.pr_roles.proofs.Common.{refl}
use Rattle.pr_roles.proofs.scenario.Scenario.starting.Goals as goal

pub invariant_of-result : goal.invariant_of-result
invariant_of-result c = (c.requires.fits, c.requires.told.0 c.if-can_start.true)

pub returns-then-can_start-clause-exactly : goal.returns-then-can_start-clause-exactly
returns-then-can_start-clause-exactly c = (λ _. c.requires.told.0 c.if-can_start.true, λ _. refl)
