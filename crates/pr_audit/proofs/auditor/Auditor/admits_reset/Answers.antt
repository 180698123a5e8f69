use Rattle.pr_roles.specs.Scenarios.{scenario_of}
use Rattle.pr_audit.specs.Auditors.{world_at}
use Rattle.pr_audit.proofs.lemmas.Auditors.Additions.{reset_tried}
use Rattle.pr_audit.proofs.auditor.Auditor.admits_reset.Goals as goal

pub returns-then-may-clause-tried : goal.returns-then-may-clause-tried
returns-then-may-clause-tried c =
    reset_tried (scenario_of c.args.scenario.now) (world_at c.args.self.now c.args.before.now) c.may_reset-may.result c.reset.new.self c.may_reset-may.ensures c.if-may.true c.reset.ensures
