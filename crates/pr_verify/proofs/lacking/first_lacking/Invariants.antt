use Rattle.pr_verify.proofs.Common.{view_of, outline_of}
use Rattle.pr_verify.proofs.lemmas.Least.FirstLines.{IsLeastSoFar}
use Rattle.pr_verify.proofs.lemmas.LeastOutlines.MissingViews.{HasAt, LacksAt}
use Rattle.pr_verify.proofs.lacking.first_lacking.Given as goal

abbrev pub invariant-loop-line : goal.invariant-loop-line
invariant-loop-line l =
    let o = outline_of l.outline in
    let w = view_of l.outline.host l.known in
    IsLeastSoFar (HasAt o w l.lines) (LacksAt o w l.lines) l.lines l.line-index l.first
