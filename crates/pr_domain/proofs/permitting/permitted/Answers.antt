use Rattle.pr_domain.proofs.Common.{sym, refl, ◌∙◌, view_of}
use Rattle.pr_domain.proofs.lemmas.Permission.WholeViews.{permitted_of_busy, permitted_of_words, refused_of_words}
use Rattle.pr_domain.proofs.permitting.permitted.Goals as goal

pub returns-then-not-has-clause-permitted : goal.returns-then-not-has-clause-permitted
returns-then-not-has-clause-permitted g c is =
    permitted_of_busy c.args.host c.args.view.now.hosts c.args.view.now.keys.items c.possibilities-possible.result (view_of c.args.host c.args.view.now) c.args.role.now.clauses.items
    c.args.command.now refl (c.possibilities-possible.ensures.same c.args.host) (sym c.is_always_permitted.ensures ∙ c.if-is_always_permitted.false) c.has.result c.has.ensures c.if-not-has.true

pub returns-clause-permitted : goal.returns-clause-permitted
returns-clause-permitted g c is =
    permitted_of_words c.args.host c.args.view.now.hosts c.args.view.now.keys.items c.possibilities-possible.result (view_of c.args.host c.args.view.now) c.args.role.now.clauses.items
    c.args.command.now refl (c.possibilities-possible.ensures.same c.args.host) (sym c.is_always_permitted.ensures ∙ c.if-is_always_permitted.false)
    (rw c.deref.ensures.0 at (rw c.deref-2.ensures.value at c.is_permitted_under_each.ensures.permitted is))

pub returns-clause-refused : goal.returns-clause-refused
returns-clause-refused g c denied =
    refused_of_words c.args.host c.args.view.now.hosts c.args.view.now.keys.items c.possibilities-possible.result (view_of c.args.host c.args.view.now) c.args.role.now.clauses.items
    c.args.command.now refl (c.possibilities-possible.ensures.same c.args.host) (sym c.is_always_permitted.ensures ∙ c.if-is_always_permitted.false)
    (rw c.deref.ensures.0 at (rw c.deref-2.ensures.value at c.is_permitted_under_each.ensures.refused denied))
