use Rattle.pr_interference.proofs.Common.{sym, refl, subst, view_in, scope_of, view_of, Fits, words_fit, IsInterference}
use Rattle.pr_interference.proofs.lemmas.Interference.AlikeViews.{interference_same, left_in_range}
use Rattle.pr_interference.proofs.interference.left_by.Goals as goal

pub returns-clause-interference : goal.returns-clause-interference
returns-clause-interference g c =
    let view = c.args.view.now in
    let s = scope_of c.args.own view in
    let words = c.possibilities.result in
    let fits : Fits (view_in s words) = words_fit c.args.own view.hosts view.keys.items words (view.some, view.few) c.requires.own view.declared c.possibilities.ensures.range c.possibilities.ensures.past in
    let is = c.interfered.ensures s (record { hosts = refl; own = refl; other = c.requires.apart; fits = fits; keys = sym c.deref-2.ensures.0 }) in
    let left = view_in s c.interfered.result in
    interference_same (view_in s words) (view_of c.args.own view) left left c.args.role.now.clauses.items c.args.other
    (record { scope = refl; there = λ i possible. (c.possibilities.ensures.same c.args.own i).0 possible; back = λ i possible. (c.possibilities.ensures.same c.args.own i).1 possible })
    (record { scope = refl; there = λ i possible. possible; back = λ i possible. possible })
    (subst (λ clauses. IsInterference (view_in s words) clauses c.args.other left) c.deref.ensures.value is)

pub returns-clause-range : goal.returns-clause-range
returns-clause-range g c =
    let view = c.args.view.now in
    let s = scope_of c.args.own view in
    let words = c.possibilities.result in
    let fits : Fits (view_in s words) = words_fit c.args.own view.hosts view.keys.items words (view.some, view.few) c.requires.own view.declared c.possibilities.ensures.range c.possibilities.ensures.past in
    let is = c.interfered.ensures s (record { hosts = refl; own = refl; other = c.requires.apart; fits = fits; keys = sym c.deref-2.ensures.0 }) in
    left_in_range s (view_in s words) c.deref.result.now c.args.other c.interfered.result refl c.requires.other is.only
