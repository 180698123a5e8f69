use Rattle.pr_sets.proofs.Common.{◌≡◌, length, arith, nat_tests}
use Rattle.pr_sets.proofs.lemmas.Lists.{empty_from_length, length_from_empty}
use Rattle.pr_sets.proofs.list_set.ListSetViewSet.is_empty.Goals as goal

pub returns : goal.returns
returns c = (
  λ is. let none : length c.args.self.now.numbers.items ≡ 0 = grind (arith, nat_tests, c.is_empty.ensures, c.args.self.now.numbers.ok) in
      empty_from_length c.args.self.now.numbers.items none,
  λ none. let is = length_from_empty c.args.self.now.numbers.items none in
      grind (arith, nat_tests, c.is_empty.ensures, c.args.self.now.numbers.ok),
)
