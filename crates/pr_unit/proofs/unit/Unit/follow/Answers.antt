use Rattle.pr_unit.proofs.Common.{◌<◌, sym, subst, UnitState, unit_of}
use Rattle.pr_unit.proofs.lemmas.Steps.WellFormedSteps.{well_formed-followed}
use Rattle.pr_unit.proofs.unit.Unit.follow.Goals as goal

pub invariant_of-self : goal.invariant_of-self
invariant_of-self c =
    let u = unit_of c.self.inside.registry c.self.inside.pending in
    let v = unit_of c.follow.new.registry c.follow.new.pendings in
    let there : c.args.host < u.registry.hosts = subst (λ (s : UnitState). c.args.host < s.registry.hosts) (sym c.self.view_is) c.requires in
    well_formed-followed u c.args.host c.in-Ok.request c.args.reply.now c.follow.result v c.self.invariant there c.in-Ok.ensures.in_range c.follow.ensures
