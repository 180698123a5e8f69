use Rattle.pr_interference.proofs.Common.{◌<◌, refl, arith, view_in, scope_of, view_of, Fits, words_fit}
use Rattle.pr_interference.proofs.lemmas.Marks.Resets.{after_reset_same, left_in_range}
use Rattle.pr_interference.proofs.resetting.left_by_reset.Goals as goal

pub returns-clause-range : goal.returns-clause-range
returns-clause-range g c =
    let view = c.args.view.now in
    let s = scope_of 0 view in
    let words = c.possibilities.result in
    let first : 0 < view.hosts = (let some = view.some in omega arith) in
    let fits : Fits (view_in s words) = words_fit 0 view.hosts view.keys.items words (view.some, view.few) first view.declared c.possibilities.ensures.range c.possibilities.ensures.past in
    left_in_range s (view_in s words) c.after_reset.result refl (c.after_reset.ensures s refl fits)

pub returns-clause-reset : goal.returns-clause-reset
returns-clause-reset g c own small =
    let view = c.args.view.now in
    let s = scope_of own view in
    let words = c.possibilities.result in
    let left = view_in s c.after_reset.result in
    let fits : Fits (view_in s words) = words_fit own view.hosts view.keys.items words (view.some, view.few) small view.declared c.possibilities.ensures.range c.possibilities.ensures.past in
    after_reset_same (view_in s words) (view_of own view) left left
    (record { scope = refl; there = λ i possible. (c.possibilities.ensures.same own i).0 possible; back = λ i possible. (c.possibilities.ensures.same own i).1 possible })
    (record { scope = refl; there = λ i possible. possible; back = λ i possible. possible })
    (c.after_reset.ensures s refl fits)
