use Rattle.pr_roles.proofs.lemmas.Fitting.FewerPremises.{makes_one}
use Rattle.pr_roles.proofs.scenario.Scenario.without_premises.Goals as goal

pub invariant_of-result : goal.invariant_of-result
invariant_of-result c = makes_one _ _ c.in_ok-without_premises.ensures c.self.invariant
