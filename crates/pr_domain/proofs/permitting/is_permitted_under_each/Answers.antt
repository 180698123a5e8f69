use Rattle.pr_domain.proofs.Common.{sym, ◌∙◌, arith, scope_at}
use Rattle.std.proofs.Common.{below_more}
use Rattle.pr_domain.specs.inside.Permitting.{ArePermitted, view_of_asker}
use Rattle.pr_domain.proofs.lemmas.Permitting.Permissions.{not_shown, each_reservation}
use Rattle.pr_domain.proofs.permitting.is_permitted_under_each.Goals.{then-has+else-not-is_permitted_at, else-has}
use Rattle.pr_domain.proofs.permitting.is_permitted_under_each.Goals as goal

pub returns-then-not-is_permitted_at-clause-refused : goal.returns-then-not-is_permitted_at-clause-refused
returns-then-not-is_permitted_at-clause-refused c denied = (c.loop-reservation.reservation, c.is_permitted_at.ensures.refused c.if-not-is_permitted_at.true c.args.clauses.now c.of-naming.ensures)

pub loop-reservation-preserved : goal.loop-reservation-preserved
loop-reservation-preserved c =
    below_more (λ x. ArePermitted (view_of_asker c.args.asked.now c.args.hosts c.args.sender c.args.view.now) c.args.clauses.now c.args.asked.now.command x)
    c.loop-reservation.reservation c.loop-reservation.invariant
    (elim c.if-has.branch [
      | then-has+else-not-is_permitted_at w ↦ w.is_permitted_at.ensures.permitted w.if-not-is_permitted_at.false c.args.clauses.now c.of-naming.ensures
      | else-has w ↦ not_shown (scope_at c.args.asked.now.keys.now c.args.hosts c.args.sender) c.args.view.now c.args.clauses.now c.args.asked.now.command c.loop-reservation.reservation (sym c.has.ensures ∙ w.if-has.false)
    ])

pub returns-clause-permitted : goal.returns-clause-permitted
returns-clause-permitted c is =
    each_reservation c.args.asked.now c.args.hosts c.args.sender c.args.view.now c.args.clauses.now c.loop-reservation.reservation c.requires.asking (omega arith) c.loop-reservation.invariant
