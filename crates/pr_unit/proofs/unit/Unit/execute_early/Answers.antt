use Rattle.pr_unit.proofs.Common.{ap, arith, UnitState, unit_of}
use Rattle.std.specs.Prelude.{Ok}
use Rattle.pr_cdb.specs.Ranges.{FitsWhereRead}
use Rattle.pr_unit.proofs.lemmas.Steps.EarlySteps.{well_formed-taken_early}
use Rattle.pr_unit.proofs.unit.Unit.execute_early.Goals as goal

-- whichever host that is there sends
pub invariant_of-self : goal.invariant_of-self
invariant_of-self c =
    let u = unit_of c.self.inside.registry c.self.inside.pending in
    let hosts = ap (λ (s : UnitState). s.registry.hosts) c.self.view_is in
    let fits : FitsWhereRead (Ok c.in_ok-request.request) = c.in_ok-request.ensures.in_range in
    well_formed-taken_early u c.args.host c.in_ok-request.request c.answer_early.result (unit_of c.answer_early.new.registry c.answer_early.new.pendings) c.self.invariant (omega arith) fits c.answer_early.ensures
