use Rattle.pr_audit.proofs.Common.{[], ◌∷◌, ◌++◌, Sent}
use Rattle.pr_audit.specs.Auditors.{world_at}
use Rattle.pr_roles.specs.Scenarios.{scenario_of}
use Rattle.pr_audit.proofs.lemmas.Auditors.Admissions.{both_tried}
use Rattle.pr_audit.proofs.auditor.Auditor.admits_served.Goals as goal

pub returns-else-admits_as-clause-tried : goal.returns-else-admits_as-clause-tried
returns-else-admits_as-clause-tried c =
    let e = c.args.entry.now in
    let before = c.args.before.now in
    let after = before ++ Sent e ∷ [] in
    both_tried (scenario_of c.args.scenario.now) e (world_at c.args.self.now before) (world_at c.admits_as.new.self after) (world_at c.admits_as-else-admits_as.new.self after) c.admits_as-else-admits_as.result
    c.if-admits_as.ensures.tried c.admits_as-else-admits_as.ensures.tried
