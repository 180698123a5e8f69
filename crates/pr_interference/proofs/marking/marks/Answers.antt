use Rattle.pr_interference.proofs.Common.{◌≡◌, sym, ◌∙◌, arith, mark, MOST_REGISTRATIONS}
use Rattle.pr_regions.proofs.lemmas.Images.Unions.{union_skips}
use Rattle.pr_interference.proofs.lemmas.Marks.Images.{union_with, image_of}
use Rattle.pr_interference.proofs.marking.marks.Goals.{then-has, else-has}
use Rattle.pr_interference.proofs.marking.marks.Goals as goal

pub loop-registration-preserved : goal.loop-registration-preserved
loop-registration-preserved c = elim c.if-has.branch [
  | then-has w ↦ rw w.marks-is (union_with c.loop-registration.registration w.mark.result c.args.owners c.loop-registration.marks w.with-marks.result (mark c.args.change.now)
      (sym c.has.ensures ∙ w.if-has.true) w.mark.ensures.mark w.with-marks.ensures c.loop-registration.invariant)
  | else-has w ↦ rw w.marks-is (union_skips c.loop-registration.registration c.args.owners c.loop-registration.marks _ (sym c.has.ensures ∙ w.if-has.false) c.loop-registration.invariant)
]

pub returns : goal.returns
returns c =
    let whole : c.loop-registration.registration ≡ MOST_REGISTRATIONS = omega arith in
    record { image = image_of MOST_REGISTRATIONS c.args.owners c.loop-registration.marks (mark c.args.change.now) (rw whole at c.loop-registration.invariant) }
