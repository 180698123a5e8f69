use Rattle.pr_unit.proofs.Common.{code_of, sym, subst, IsWellFormed, after_report, ap, Pairs, unit_of}
use Rattle.pr_unit.proofs.lemmas.Steps.QuietSteps.{quiet_well_formed, reported-quiet}
use Rattle.pr_unit.proofs.unit.Unit.fetch.Goals as goal

pub invariant_of-self : goal.invariant_of-self
invariant_of-self c =
    let u = unit_of c.self.inside.registry c.self.inside.pending in
    let code = code_of c.args.attention in
    subst IsWellFormed (sym (ap (λ (p : Pairs). record u { pending = p }) c.remove.ensures)) (quiet_well_formed u (after_report u c.args.host code) c.args.host c.self.invariant (reported-quiet u c.args.host code))
