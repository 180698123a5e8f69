use Rattle.pr_sets.proofs.Common.{◌≡◌, sym, ◌∙◌, numbers_in}
use Rattle.std.proofs.Common.{rules, tests}
use Rattle.std.specs.FinSet as set
use Rattle.std.specs.List.{list_all}
use Rattle.std.proofs.lemmas.Iterator.{YieldsList-from_slice}
use Rattle.std.proofs.lemmas.Iterator.Search.{all_from_yields_List}
use Rattle.pr_sets.proofs.lemmas.Lists.{Within-from_all, all_from_Within}
use Rattle.pr_sets.proofs.list_set.ListSetViewSet.within.Goals as goal

answer : (c : goal.After-all) → c.all.result ≡ list_all (set.contains (numbers_in c.args.other.now.numbers.items)) c.args.self.now.numbers.items
answer c =
    all_from_yields_List (set.contains (numbers_in c.args.other.now.numbers.items)) _ _ c.all.result c.all.ensures.ran
    (YieldsList-from_slice c.args.self.now.numbers.items cc) (λ x b q k. search (rules, tests))

pub returns : goal.returns
returns c = (
  λ is. Within-from_all c.args.self.now.numbers.items _ (sym (answer c) ∙ is),
  λ within. answer c ∙ all_from_Within c.args.self.now.numbers.items _ within,
)
