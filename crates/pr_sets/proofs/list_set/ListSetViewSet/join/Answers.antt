use Rattle.pr_sets.proofs.Common.{◌≡◌, ◌<◌, ℕ, List, length, refl, sym, ap, subst, ◌∙◌, arith, numbers_in}
use Rattle.std.proofs.Common.{get_or}
use Rattle.std.specs.FinSet as set
use Rattle.pr_sets.proofs.lemmas.Lists.{has_at, union_none, union_more}
use Rattle.pr_sets.proofs.list_set.ListSetViewSet.join.Goals as goal

pub loop-n-init : goal.loop-n-init
loop-n-init c = record {
  size = refl;
  room = omega (arith, c.in_ok-reserve.ensures.ok, c.reserve.ensures.len, c.len.ensures, c.args.other.now.numbers.ok);
  members = ap numbers_in c.reserve.ensures.items ∙ sym (union_none (numbers_in c.args.self.now.numbers.items) c.args.other.now.numbers.items);
}

pub put-requires-clause-below : goal.put-requires-clause-below
put-requires-clause-below c =
    let same : c.deref-n-items.result.now ≡ c.args.other.now.numbers.items = c.deref-n-items.ensures.value in
    let there = subst (λ (l : List ℕ). c.loop-n.n-index < length l) same c.loop-n-test.true in
    let below = c.args.other.now.below _ (has_at c.args.other.now.numbers.items _ c.loop-n.n-index there refl) in
    rw same (omega (arith, below, c.requires.alike, c.loop-n.invariant.size))

pub loop-n-preserved : goal.loop-n-preserved
loop-n-preserved c =
    let same : c.deref-n-items.result.now ≡ c.args.other.now.numbers.items = c.deref-n-items.ensures.value in
    let there = subst (λ (l : List ℕ). c.loop-n.n-index < length l) same c.loop-n-test.true in
    record {
      size = c.put.ensures.size ∙ c.loop-n.invariant.size;
      room = omega (arith, there, c.put.ensures.len, c.put.ensures.capacity, c.loop-n.invariant.room);
      members = c.put.ensures.members ∙ ap (λ s. set.insert s (get_or c.deref-n-items.result.now c.loop-n.n-index 0)) c.loop-n.invariant.members
          ∙ sym (union_more (numbers_in c.args.self.now.numbers.items) c.args.other.now.numbers.items c.loop-n.n-index (get_or c.deref-n-items.result.now c.loop-n.n-index 0) there (ap (λ l. get_or l c.loop-n.n-index 0) same));
    }
