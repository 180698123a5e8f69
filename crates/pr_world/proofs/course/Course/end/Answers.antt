use Rattle.pr_world.proofs.Common.{arith}
use Rattle.pr_world.proofs.lemmas.Turns.Schedules.{end_here}
use Rattle.pr_world.proofs.course.Course.end.Goals as goal

pub returns : goal.returns
returns c = end_here c.args.self.now.unit _ c.args.self.now.history.items _ _ _ _ (omega (arith, c.args.self.now.participants.ok.0)) c.from.ensures c.index.ensures c.end.ensures
