use Rattle.pr_roles.proofs.lemmas.SafeRuns.FewerPremises.{shared_paths_are_no_safer}
use Rattle.pr_roles.proofs.laws.shared_paths_are_no_safer.Goals as goal

pub returns : goal.returns
returns c = shared_paths_are_no_safer
