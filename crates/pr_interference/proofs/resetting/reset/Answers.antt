use Rattle.pr_interference.proofs.Common.{◌≡◌, refl, ◌∙◌, view_in, scope_of, view_of, if_ok, same_views}
use Rattle.pr_interference.proofs.lemmas.Marks.Resets.{after_reset_same}
use Rattle.pr_interference.proofs.resetting.reset.Goals as goal

pub returns-clause-reset : goal.returns-clause-reset
returns-clause-reset g c =
    let view = c.args.view.now in
    if_ok c.of.result (λ w keys hosts same own small.
    let s = scope_of own view in
    let scope : scope_of own w ≡ s = λ i. record { own = own; hosts = hosts i; keys = (keys ∙ c.deref.ensures.0) i } in
    after_reset_same (view_of own view) (view_of own view) (view_in s c.left_by_reset-left.result) (view_of own w)
    (record { scope = refl; there = λ i possible. possible; back = λ i possible. possible })
    (same_views own w s c.left_by_reset-left.result scope (same own))
    (c.left_by_reset-left.ensures.reset own small))
    c.of.ensures.keys c.of.ensures.hosts c.of.ensures.same
