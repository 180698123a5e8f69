use Rattle.pr_verify.proofs.Common.{map, Contains, sym, subst, rules, view_of, AreAlike, same_view}
use Rattle.pr_verify.proofs.lemmas.Rooms.MappedLists.{mapped, read_there}
use Rattle.pr_verify.proofs.others.is_one_of.Goals as goal

pub within-requires : goal.within-requires
within-requires c =
    let is = subst (λ e. AreAlike c.args.view.now e.1) (sym c.loop-other-item.is) (c.requires c.loop-other.other-index c.loop-other-item.result c.loop-other-test.true) in
    (search rules, is)

pub within-requires-then-within : goal.within-requires-then-within
within-requires-then-within c =
    let is = subst (λ e. AreAlike c.args.view.now e.1) (sym c.loop-other-item.is) (c.requires c.loop-other.other-index c.loop-other-item.result c.loop-other-test.true) in
    (search rules, record { keys = sym is.keys; hosts = sym is.hosts })

pub returns-then-within-2 : goal.returns-then-within-2
returns-then-within-2 c is own =
    let one = c.loop-other-item.result in
    let like = subst (λ e. AreAlike c.args.view.now e.1) (sym c.loop-other-item.is) (c.requires c.loop-other.other-index one c.loop-other-test.true) in
    subst (Contains (map (λ e. view_of own e.1) c.args.others.now)) (sym (same_view own c.args.view.now one.1 like.keys like.hosts (c.within.ensures.0 c.if-within.true own) (c.within-then-within.ensures.0 c.if-within-2.true own)))
    (mapped (λ e. view_of own e.1) c.args.others.now one (read_there c.args.others.now c.loop-other.other-index one c.loop-other-test.true c.loop-other-item.is))
