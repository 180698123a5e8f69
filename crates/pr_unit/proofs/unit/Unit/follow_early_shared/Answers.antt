use Rattle.pr_unit.proofs.Common.{◌∙◌, subst, Request, UnitState, unit_of}
use Rattle.pr_unit.proofs.lemmas.Steps.EarlySteps.{well_formed-followed_early_shared}
use Rattle.std.specs.Prelude.{Result}
use Rattle.pr_cdb.specs.declared.wire.Bad.{Bad}
use Rattle.pr_cdb.specs.Requests.{request_of, request_of_wire}
use Rattle.pr_unit.specs.Steps.{ReportsEarly}
use Rattle.pr_unit.specs.SharedPaths.{FollowsShared}
use Rattle.pr_unit.proofs.unit.Unit.follow_early_shared.Goals as goal

pub invariant_of-self : goal.invariant_of-self
invariant_of-self c =
    well_formed-followed_early_shared (unit_of c.self.inside.registry c.self.inside.pending) c.args.host c.in-Ok.request c.args.reply.now c.follow_early_shared.result
    (unit_of c.self.inside.registry c.follow_early_shared.new.pendings) c.self.invariant c.follow_early_shared.ensures

pub returns-in-Ok : goal.returns-in-Ok
returns-in-Ok c =
    let v = unit_of c.self.inside.registry c.follow_early_shared.new.pendings in
    let at = λ (o : Result Request Bad) (u : UnitState). FollowsShared (λ q x y. ReportsEarly x c.args.host q c.args.reply.now y) u c.args.host o c.follow_early_shared.result v in
    subst (at (request_of_wire c.args.wire.now)) c.self.view_is (subst (λ o. at o (unit_of c.self.inside.registry c.self.inside.pending)) (c.in-Ok.ensures.value ∙ (λ i. request_of (c.deref.ensures.0 i) (c.deref-2.ensures.0 i))) c.follow_early_shared.ensures)
