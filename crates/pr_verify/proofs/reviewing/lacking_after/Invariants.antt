use Rattle.pr_verify.proofs.Common.{map, view_of, outline_of, HasView, LacksView, lines_after}
use Rattle.pr_verify.proofs.lemmas.Least.FirstLines.{IsLeastSoFar}
use Rattle.pr_verify.proofs.reviewing.lacking_after.Given as goal

abbrev pub invariant-loop-landing : goal.invariant-loop-landing
invariant-loop-landing l =
    let o = outline_of l.outline in
    let next = map (λ lines. lines.items) l.next in
    IsLeastSoFar (λ x. HasView o (lines_after next x.0) (view_of l.outline.host x.1)) (λ x. LacksView o (lines_after next x.0) (view_of l.outline.host x.1)) l.outcomes l.landing-index l.first
