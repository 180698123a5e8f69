use Rattle.pr_interference.proofs.Common.{◌≡◌, true, sym, ◌∙◌, subst, arith, has, ATTENTION_SETS}
use Rattle.std.proofs.Math.Bool.{or_comm}
use Rattle.pr_regions.proofs.lemmas.Images.Unions.{union_joined, union_skips}
use Rattle.pr_interference.proofs.lemmas.Marks.Images.{told_from_marks}
use Rattle.pr_interference.proofs.marking.attentions_after.Goals.{then-has, else-has}
use Rattle.pr_interference.proofs.marking.attentions_after.Goals as goal

pub loop-mark-preserved : goal.loop-mark-preserved
loop-mark-preserved c = elim c.if-has.branch [
  | then-has w ↦
      let new = w.attentions_with.result in
      rw w.told-is (union_joined c.loop-mark.mark c.marks-marks.result c.loop-mark.told w.or-told.result _ (has new) (sym c.has.ensures ∙ w.if-has.true)
      (λ n. w.or-told.ensures n ∙ or_comm (has c.loop-mark.told n) (has new n))
      (λ n. (w.attentions_with.ensures.only n, λ found. subst (λ m. has new m ≡ true) (sym found.2) (w.attentions_with.ensures.all found.0 found.1))) c.loop-mark.invariant)
  | else-has w ↦ rw w.told-is (union_skips c.loop-mark.mark c.marks-marks.result c.loop-mark.told _ (sym c.has.ensures ∙ w.if-has.false) c.loop-mark.invariant)
]

pub returns : goal.returns
returns c =
    let whole : c.loop-mark.mark ≡ ATTENTION_SETS = omega arith in
    told_from_marks c.args.change.now c.args.owners c.args.pending c.marks-marks.result c.loop-mark.told c.marks-marks.ensures.image (rw whole at c.loop-mark.invariant)
