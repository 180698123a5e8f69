use Rattle.pr_verify.proofs.Common.{◌+◌, sym, ◌∙◌, subst, arith, view_of, outline_of}
use Rattle.pr_verify.proofs.lemmas.Least.FirstLines.{IsLeastSoFar}
use Rattle.pr_verify.proofs.lemmas.LeastOutlines.MissingViews.{HasAt, LacksAt, with_missing, with_none_missing, missing_all}
use Rattle.pr_verify.proofs.lacking.first_lacking.Goals.{then-not-has_within, else-not-has_within}
use Rattle.pr_verify.proofs.lacking.first_lacking.Goals as goal

pub loop-line-init : goal.loop-line-init
loop-line-init c line k d low small = absurd (omega arith)

pub loop-line-preserved : goal.loop-line-preserved
loop-line-preserved c =
    let o = outline_of c.args.outline.now in
    let v = view_of c.args.outline.now.host c.args.known.now in
    let lines = c.args.lines.now in
    let n = c.loop-line.line-index in
    elim c.if-not-has_within.branch [
      | then-not-has_within w ↦ subst (IsLeastSoFar (HasAt o v lines) (LacksAt o v lines) lines (n + 1)) (sym w.least-first.ensures ∙ sym w.first-is)
          (with_missing o v lines n c.loop-line.first c.has_within.result c.loop-line-test.true c.has_within.ensures c.loop-line.invariant w.if-not-has_within.true)
      | else-not-has_within w ↦ subst (IsLeastSoFar (HasAt o v lines) (LacksAt o v lines) lines (n + 1)) (sym w.first-is)
          (with_none_missing o v lines n c.loop-line.first c.has_within.result c.loop-line-test.true c.has_within.ensures c.loop-line.invariant w.if-not-has_within.false)
    ]

pub returns : goal.returns
returns c =
    missing_all (outline_of c.args.outline.now) (view_of c.args.outline.now.host c.args.known.now) c.args.lines.now c.loop-line.line-index c.loop-line.first c.loop-line-test.false c.loop-line.invariant
