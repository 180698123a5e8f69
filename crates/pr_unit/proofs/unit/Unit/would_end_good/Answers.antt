use Rattle.pr_unit.proofs.Common.{sym, ap, ◌∙◌, subst, Plain, Step, ends_good, UnitState, unit_of}
use Rattle.pr_unit.proofs.lemmas.TakenSteps.Determinism.{good_by_decision}
use Rattle.pr_unit.proofs.unit.Unit.would_end_good.Goals as goal

pub returns-clause-steps : goal.returns-clause-steps
returns-clause-steps c = λ reply after step.
    let q = Plain c.args.command.now in
    let u = unit_of c.self.inside.registry c.self.inside.pending in
    let here : Step u c.args.host q reply after = subst (λ (s : UnitState). Step s c.args.host q reply after) (sym c.self.view_is) step in
    good_by_decision u c.args.host q reply after here ∙ ap (λ l. ends_good l q) (sym c.decide-decision.ensures) ∙ sym c.ends_good.ensures
