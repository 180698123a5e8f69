use Rattle.pr_views.proofs.Common.{ℕ, [], ◌∷◌, ◌++◌, take, sym, ap, ◌∙◌}
use Rattle.std.proofs.lemmas.List.{map_push, map_more, take_all}
use Rattle.pr_views.specs.Rooms.{view_of}
use Rattle.pr_views.specs.Tables.{views_of}
use Rattle.pr_views.specs.Views.{View}
use Rattle.pr_views.proofs.outline.OutlineBy+ViewOf+S.in_sets.Goals as goal

pub loop-line-preserved : goal.loop-line-preserved
loop-line-preserved g c =
    let host = c.args.self.now.host in
    let views = c.deref-line-items.result.now in
    let i = c.loop-line.line-index in
    let e = c.loop-line-item.result in
    ap (views_of host) c.in_ok-push.ensures.items
    ∙ map_push {Y = ℕ × View} (λ x. (x.0, view_of host x.1)) c.loop-line.views.items (e.0, c.in_ok-in_sets.field-0)
    ∙ (λ j. c.loop-line.invariant j ++ (e.0, c.in_ok-in_sets.ensures.same host j) ∷ [])
    ∙ (λ j. views_of host (take i views) ++ ((c.loop-line-item.is j).0, view_of host (c.loop-line-item.is j).1) ∷ [])
    ∙ sym (map_more {Y = ℕ × View} (λ x. (x.0, view_of host x.1)) views i e c.loop-line-test.true)

pub returns : goal.returns
returns g c =
    let all = take_all c.loop-line.line-index c.deref-line-items.result.now c.loop-line-test.false ∙ c.deref-line-items.ensures.value in
    λ i. record { host = c.args.self.now.host; views = (c.loop-line.invariant ∙ ap (views_of c.args.self.now.host) all) i }
