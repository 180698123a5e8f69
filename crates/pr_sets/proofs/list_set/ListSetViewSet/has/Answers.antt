use Rattle.pr_sets.proofs.Common.{◌∙◌}
use Rattle.pr_sets.proofs.lemmas.Lists.{has_by_search}
use Rattle.pr_sets.proofs.list_set.ListSetViewSet.has.Goals as goal

pub returns : goal.returns
returns c =
    c.is_ok.ensures.value ∙ has_by_search c.args.self.now.numbers.items c.deref.result.now c.args.n c.binary_search.result c.deref.ensures.value c.args.self.now.sorted c.binary_search.ensures.position
