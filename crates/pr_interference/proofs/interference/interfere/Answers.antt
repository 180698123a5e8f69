use Rattle.pr_interference.proofs.Common.{◌≡◌, refl, ◌∙◌, view_in, scope_of, view_of, if_ok, same_views}
use Rattle.pr_interference.proofs.lemmas.Interference.AlikeViews.{interference_same}
use Rattle.pr_interference.proofs.interference.interfere.Goals as goal

pub returns-clause-interference : goal.returns-clause-interference
returns-clause-interference g c =
    let view = c.args.view.now in
    let s = scope_of c.args.own view in
    if_ok c.of.result (λ w keys hosts same.
    let scope : scope_of c.args.own w ≡ s = λ i. record { own = c.args.own; hosts = hosts i; keys = (keys ∙ c.deref.ensures.0) i } in
    interference_same (view_of c.args.own view) (view_of c.args.own view) (view_in s c.left_by-left.result) (view_of c.args.own w) c.args.role.now.clauses.items c.args.other
    (record { scope = refl; there = λ i possible. possible; back = λ i possible. possible })
    (same_views c.args.own w s c.left_by-left.result scope (same c.args.own))
    c.left_by-left.ensures.interference)
    c.of.ensures.keys c.of.ensures.hosts c.of.ensures.same
