use Rattle.pr_unit.proofs.Common.{unit_of}
use Rattle.pr_unit.proofs.lemmas.Steps.EarlySteps.{well_formed-followed_early}
use Rattle.pr_unit.proofs.unit.Unit.follow_early.Goals as goal

pub invariant_of-self : goal.invariant_of-self
invariant_of-self c =
    well_formed-followed_early (unit_of c.self.inside.registry c.self.inside.pending) c.args.host c.in-Ok.request c.args.reply.now c.follow_early.result (unit_of c.self.inside.registry c.follow_early.new.pendings) c.self.invariant
    c.follow_early.ensures
