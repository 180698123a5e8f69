use Rattle.pr_unit.proofs.Common.{sym, subst, IsWellFormed, ap, Pairs, unit_of}
use Rattle.pr_unit.specs.SharedPaths.{silenced}
use Rattle.pr_unit.proofs.lemmas.Steps.QuietSteps.{quiet_well_formed}
use Rattle.pr_unit.proofs.lemmas.Steps.SharedSteps.{silenced-quiet}
use Rattle.pr_unit.proofs.unit.Unit.fetch_all.Goals as goal

pub invariant_of-self : goal.invariant_of-self
invariant_of-self c =
    let u = unit_of c.self.inside.registry c.self.inside.pending in
    subst IsWellFormed (sym (ap (λ (p : Pairs). record u { pending = p }) c.silence.ensures)) (quiet_well_formed u (silenced u c.args.host) c.args.host c.self.invariant (silenced-quiet u c.args.host))
