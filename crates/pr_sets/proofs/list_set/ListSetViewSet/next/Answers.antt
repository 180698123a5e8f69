use Rattle.pr_sets.proofs.Common.{◌≡◌, ◌∙◌, ℕ, List, nat_lt, subst, sym}
use Rattle.std.proofs.Common.{slice_get, rules, of_calls}
use Rattle.std.specs.List.Sorted.{IsStrictlyIncreasing}
use Rattle.std.proofs.lemmas.List.Sorted.{IsPartitionPoint-from_clause}
use Rattle.pr_sets.proofs.lemmas.Lists.{IsStart, tests_fall, got, answers_some, answers_none}
use Rattle.pr_sets.proofs.list_set.ListSetViewSet.next.Goals as goal

found : (c : goal.After-copied) → c.copied.result ≡ slice_get c.args.self.now.numbers.items c.partition_point-at.result
found c = c.copied.ensures ∙ got _ _ c.partition_point-at.result c.get.result c.deref-2.ensures.value c.get.ensures.lookup.0 c.get.ensures.lookup.1

start : (c : goal.After-copied) → IsStart c.args.self.now.numbers.items c.args.from c.partition_point-at.result
start c =
    let same : c.deref.result.now ≡ c.args.self.now.numbers.items = c.deref.ensures.value in
    let falls = tests_fall c.deref.result.now c.args.from (subst IsStrictlyIncreasing (sym same) c.args.self.now.sorted) in
    subst (λ (l : List ℕ). IsStart l c.args.from c.partition_point-at.result) same
    (IsPartitionPoint-from_clause (λ n. nat_lt n c.args.from) c.deref.result.now c.partition_point-at.result c.partition_point-at.ensures.partitioned falls
    (λ a r f k. search (rules, of_calls)))

pub returns-clause-some : goal.returns-clause-some
returns-clause-some c =
    answers_some c.args.self.now.numbers.items c.args.from c.partition_point-at.result c.copied.result c.args.self.now.sorted (start c) (found c)

pub returns-clause-none : goal.returns-clause-none
returns-clause-none c =
    answers_none c.args.self.now.numbers.items c.args.from c.partition_point-at.result c.copied.result c.args.self.now.sorted (start c) (found c)
