use Rattle.pr_views.proofs.Common.{rules}
use Rattle.pr_views.proofs.lemmas.Views.Values.{contains_none}
use Rattle.pr_views.proofs.sets.empty_sets.Goals as goal

pub returns-clause-members : goal.returns-clause-members
returns-clause-members g c = contains_none g.S.ViewSet.members c.from_fn.result (search rules)
