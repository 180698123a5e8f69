use Rattle.pr_roles.proofs.lemmas.SafeRuns.FewerPremises.{fewer_premises_are_no_safer}
use Rattle.pr_roles.proofs.laws.fewer_premises_are_no_safer.Goals as goal

pub returns : goal.returns
returns c = fewer_premises_are_no_safer
