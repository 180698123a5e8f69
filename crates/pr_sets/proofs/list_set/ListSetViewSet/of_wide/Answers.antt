use Rattle.pr_sets.proofs.Common.{sym, ap, ◌∙◌, numbers_in, has_wide}
use Rattle.std.specs.FinSet as set
use Rattle.pr_sets.specs.declared.list_set.ListSet.{ListSet}
use Rattle.pr_sets.proofs.lemmas.Members.{contains-empty}
use Rattle.pr_sets.proofs.lemmas.Fronts.{front_none, front_skips, added}
use Rattle.pr_sets.proofs.list_set.ListSetViewSet.of_wide.Goals.{then-has+in_ok-add, else-has}
use Rattle.pr_sets.proofs.list_set.ListSetViewSet.of_wide.Goals as goal

pub loop-n-init : goal.loop-n-init
loop-n-init c = record {
  room = c.none-list.ensures.room;
  members = front_none (set.contains (numbers_in c.none-list.result.numbers.items)) (has_wide c.args.word) (λ m. ap (λ s. set.contains s m) c.none-list.ensures.members ∙ contains-empty m);
}

pub loop-n-preserved : goal.loop-n-preserved
loop-n-preserved c =
    elim c.if-has.branch [
      | then-has+in_ok-add w ↦ record {
        room = ap (λ (s : ListSet). s.size) w.list-is ∙ w.add.ensures.room ∙ c.loop-n.invariant.room;
        members = added (numbers_in c.loop-n.list.numbers.items) (numbers_in c.if-has.list.numbers.items) (has_wide c.args.word) c.loop-n.n c.loop-n.invariant.members (sym c.has.ensures ∙ w.if-has.true)
            (ap (λ (s : ListSet). numbers_in s.numbers.items) w.list-is ∙ w.in_ok-add.ensures.ok);
      }
      | else-has w ↦ record {
        room = ap (λ (s : ListSet). s.size) w.list-is ∙ c.loop-n.invariant.room;
        members = front_skips (set.contains (numbers_in c.if-has.list.numbers.items)) (has_wide c.args.word) c.loop-n.n
            (λ m. ap (λ (s : ListSet). set.contains (numbers_in s.numbers.items) m) w.list-is ∙ c.loop-n.invariant.members m) (sym c.has.ensures ∙ w.if-has.false);
      }
    ]
