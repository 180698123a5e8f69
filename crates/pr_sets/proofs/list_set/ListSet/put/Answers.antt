use Rattle.pr_sets.proofs.Common.{◌≡◌, ap, ◌∙◌, numbers_in}
use Rattle.std.specs.List.{insert}
use Rattle.pr_sets.proofs.lemmas.Members.{AllBelow-insert}
use Rattle.pr_sets.proofs.lemmas.Lists.{IsGap, gap_at, found_at, put_found, numbers_in-insert, increasing-insert}
use Rattle.pr_sets.proofs.list_set.ListSet.put.Goals as goal

gap : (c : goal.After-insert) → IsGap c.args.self.now.numbers.items c.in-Err.at c.args.n
gap c = gap_at c.args.self.now.numbers.items c.deref.result.now c.args.n c.in-Err.at c.deref.ensures.value c.args.self.now.sorted c.in-Err.ensures.position

inserted : (c : goal.After-insert) → c.insert.new.self.items ≡ insert c.args.self.now.numbers.items c.in-Err.at c.args.n
inserted c = rw (c.insert.ensures.succeeds c.requires.room) at c.insert.ensures.items

pub invariant_of-self-clause-sorted : goal.invariant_of-self-clause-sorted
invariant_of-self-clause-sorted c = rw (inserted c) (increasing-insert _ _ _ c.args.self.now.sorted (gap c))

pub invariant_of-self-clause-below : goal.invariant_of-self-clause-below
invariant_of-self-clause-below c =
    rw (inserted c, numbers_in-insert c.args.self.now.numbers.items c.in-Err.at c.args.n) (AllBelow-insert _ _ c.args.n c.requires.below c.args.self.now.below)

pub returns-in-Err-clause-members : goal.returns-in-Err-clause-members
returns-in-Err-clause-members c =
    ap numbers_in (rw (c.insert.ensures.succeeds c.requires.room) at c.insert.ensures.items) ∙ numbers_in-insert c.args.self.now.numbers.items c.in-Err.at c.args.n

pub returns-in_default-clause-members : goal.returns-in_default-clause-members
returns-in_default-clause-members c =
    let at = found_at c.args.self.now.numbers.items c.deref.result.now c.args.n c.in_default.field-0 c.deref.ensures.value c.args.self.now.sorted c.in_default.ensures.position in
    put_found c.args.self.now.numbers.items c.args.n c.in_default.field-0 at.0 at.1
