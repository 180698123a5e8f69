use Rattle.pr_verify.proofs.Common.{◌+◌, map, sym, subst, arith, view_of, KeptView, Landing, outline_of, HasView, LacksView, lines_after, IsLeast}
use Rattle.pr_verify.specs.inside.Lacking.{CanCompare}
use Rattle.pr_verify.proofs.lemmas.Least.FirstLines.{IsLeastSoFar, least_more, least_of_all}
use Rattle.pr_verify.proofs.reviewing.lacking_after.Goals as goal

pub loop-landing-init : goal.loop-landing-init
loop-landing-init c line k d low small = absurd (omega arith)

pub first_lacking-requires : goal.first_lacking-requires
first_lacking-requires c =
    let x = c.loop-landing-item.result in
    subst (λ (o : Landing × KeptView). CanCompare c.args.outline.now.views.items o.1) (sym c.loop-landing-item.is) (c.requires c.loop-landing.landing-index x c.loop-landing-test.true)

pub loop-landing-preserved : goal.loop-landing-preserved
loop-landing-preserved c =
    let o = outline_of c.args.outline.now in
    let own = c.args.outline.now.host in
    let next = map (λ lines. lines.items) c.args.next.now in
    let xs = c.args.outcomes.now in
    let n = c.loop-landing.landing-index in
    let x = c.loop-landing-item.result in
    let Has = λ (y : Landing × KeptView). HasView o (lines_after next y.0) (view_of own y.1) in
    let Lacks = λ (y : Landing × KeptView). LacksView o (lines_after next y.0) (view_of own y.1) in
    subst (IsLeastSoFar Has Lacks xs (n + 1)) (sym c.least-first.ensures)
    (least_more Has Lacks xs n x c.loop-landing.first c.first_lacking.result c.loop-landing-test.true c.loop-landing-item.is c.loop-landing.invariant
    (subst (λ lines. IsLeast (HasView o lines (view_of own x.1)) (LacksView o lines (view_of own x.1)) c.first_lacking.result) c.lines_after.ensures c.first_lacking.ensures))

pub returns : goal.returns
returns c =
    let o = outline_of c.args.outline.now in
    let own = c.args.outline.now.host in
    let next = map (λ lines. lines.items) c.args.next.now in
    least_of_all (λ (y : Landing × KeptView). HasView o (lines_after next y.0) (view_of own y.1)) (λ y. LacksView o (lines_after next y.0) (view_of own y.1)) c.args.outcomes.now
    c.loop-landing.landing-index c.loop-landing.first c.loop-landing-test.false c.loop-landing.invariant
