use Rattle.pr_verify.proofs.Common.{script_of, task, scenario_of}
use Rattle.pr_roles.proofs.lemmas.Scenarios.Nexuses.{scripted_task, scripted_fits}
use Rattle.pr_verify.specs.inside.Tabling.{IsCosted}
use Rattle.pr_verify.proofs.lemmas.Rooms.Nexuses.{scripted_there, planned_not}
use Rattle.pr_verify.proofs.lemmas.Rooms.Scripts.{on_script}
use Rattle.pr_verify.proofs.lemmas.Tabling.Judgements.{costed}
use Rattle.pr_verify.proofs.tabling.over_budget.Goals as goal

pub nexus_in-requires : goal.nexus_in-requires
nexus_in-requires c = scripted_there (scenario_of c.args.scenario.now) c.args.host c.requires

pub check_cost-requires : goal.check_cost-requires
check_cost-requires c =
    (scripted_fits (scenario_of c.args.scenario.now) c.args.host c.nexus_in.result.now c.nexus_in.ensures.nexus c.in-Scripted.script c.in-Scripted.budget c.in-Scripted.is c.nexus_in.ensures.fits).1

pub returns : goal.returns
returns c =
    let s = scenario_of c.args.scenario.now in
    let h = c.args.host in
    let script = script_of c.in-Scripted.script in
    let budget = c.in-Scripted.budget in
    let is = scripted_task s h c.nexus_in.result.now c.nexus_in.ensures.nexus c.in-Scripted.script budget c.in-Scripted.is in
    on_script (task s h) script budget (λ b n. IsCosted s h b n c.err.result) is (costed s h c.in-Scripted.script budget c.check_cost.result c.err.result c.err.ensures.value c.check_cost.ensures.within c.check_cost.ensures.over)

pub unreachable-requires : goal.unreachable-requires
unreachable-requires c = planned_not (scenario_of c.args.scenario.now) c.args.host c.nexus_in.result.now c.nexus_in.ensures.nexus c.in-Planned.field-0 c.in-Planned.is c.requires
