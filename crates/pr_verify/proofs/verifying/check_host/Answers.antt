use Rattle.pr_verify.proofs.Common.{ℕ, ◌≤◌, ◌≢◌, IfErr, Some, sym, refl, ap, ◌∙◌, subst, arith, err_from_is_err_and, cost_of_all, Stmts, script_of, task, task_of, scenario_of, IsLeastSound, HasOutline, OnScripted, SendsFit, IsRefusal, outline_of, IsScripted, Refusal}
use Rattle.std.proofs.lemmas.Result.{IfErr-weaker, on_ok_weaker}
use Rattle.pr_roles.proofs.lemmas.Scenarios.Nexuses.{scripted_task, scripted_fits, task_read}
use Rattle.pr_roles.specs.declared.refusal.Refusal.TheVariants.{Memory}
use Rattle.pr_verify.specs.Verdicts.{HasReason}
use Rattle.pr_verify.proofs.lemmas.Verdicts.Reasons.{has_reason}
use Rattle.pr_verify.proofs.lemmas.Rooms.Scripts.{on_script}
use Rattle.pr_verify.proofs.lemmas.Outlines.Checks.{has_outline}
use Rattle.pr_verify.proofs.verifying.check_host.Goals as goal

pub check_cost-requires : goal.check_cost-requires
check_cost-requires c =
    (scripted_fits (scenario_of c.args.scenario.now) c.args.host c.nexus_in.result.now c.nexus_in.ensures.nexus c.in-Scripted.script c.in-Scripted.budget c.in-Scripted.is c.nexus_in.ensures.fits).1

pub infer-requires : goal.infer-requires
infer-requires c =
    let is = scripted_task (scenario_of c.args.scenario.now) c.args.host c.nexus_in.result.now c.nexus_in.ensures.nexus c.in-Scripted.script c.in-Scripted.budget c.in-Scripted.is in
    record { scripted = subst IsScripted (sym is) tt }

pub check_fit-requires : goal.check_fit-requires
check_fit-requires c =
    let s = scenario_of c.args.scenario.now in
    let o = outline_of c.in_ok-outline-in-Scripted.outline in
    let n = c.nexus_in.result.now in
    let is = scripted_task s c.args.host n c.nexus_in.ensures.nexus c.in-Scripted.script c.in-Scripted.budget c.in-Scripted.is in
    let fits = scripted_fits s c.args.host n c.nexus_in.ensures.nexus c.in-Scripted.script c.in-Scripted.budget c.in-Scripted.is c.nexus_in.ensures.fits in
    let same = c.in_ok-outline-in-Scripted.ensures.host in
    let least = subst (λ t. OnScripted t (λ b n. IsLeastSound s b o)) is c.in_ok-outline-in-Scripted.ensures.least in
    record { able = record { host = omega (arith, c.requires); written = fits.0; made = c.in_ok-outline-in-Scripted.ensures.made }; sound = least.sound }

pub returns-in_ok-outline-in-Scripted-clause-outline : goal.returns-in_ok-outline-in-Scripted-clause-outline
returns-in_ok-outline-in-Scripted-clause-outline c =
    let s = scenario_of c.args.scenario.now in
    let host = c.args.host in
    let script = script_of c.in-Scripted.script in
    let budget = c.in-Scripted.budget in
    let is = scripted_task s host c.nexus_in.result.now c.nexus_in.ensures.nexus c.in-Scripted.script budget c.in-Scripted.is in
    let o = outline_of c.in_ok-outline-in-Scripted.outline in
    let least = subst (λ t. OnScripted t (λ b n. IsLeastSound s b o)) is c.in_ok-outline-in-Scripted.ensures.least in
    on_ok_weaker c.check_fit.result
    (λ fitting. on_script (task s host) script budget (HasOutline s host) is
    (has_outline s host script budget c.in_ok-outline-in-Scripted.ensures.host least.sound (fitting budget c.in_ok-check_cost-in-Scripted.ensures.within))) c.check_fit.ensures.fitting

pub returns-in_ok-outline-in-Scripted-clause-fields : goal.returns-in_ok-outline-in-Scripted-clause-fields
returns-in_ok-outline-in-Scripted-clause-fields c =
    let s = scenario_of c.args.scenario.now in
    let host = c.args.host in
    let script = script_of c.in-Scripted.script in
    let budget = c.in-Scripted.budget in
    let is = scripted_task s host c.nexus_in.result.now c.nexus_in.ensures.nexus c.in-Scripted.script budget c.in-Scripted.is in
    on_ok_weaker c.check_fit.result (on_script (task s host) script budget (λ (b : Stmts) (n : ℕ). SendsFit b) is) c.check_fit.ensures.fields

pub returns-in-Planned-clause-outline : goal.returns-in-Planned-clause-outline
returns-in-Planned-clause-outline c =
    let s = scenario_of c.args.scenario.now in
    let is = task_read s c.args.host c.nexus_in.result.now c.nexus_in.ensures.nexus ∙ ap (λ t. Some (task_of t)) c.in-Planned.is in
    subst (λ t. OnScripted t (HasOutline s c.args.host)) (sym is) tt

pub returns-in-Planned-clause-fields : goal.returns-in-Planned-clause-fields
returns-in-Planned-clause-fields c =
    let s = scenario_of c.args.scenario.now in
    let is = task_read s c.args.host c.nexus_in.result.now c.nexus_in.ensures.nexus ∙ ap (λ t. Some (task_of t)) c.in-Planned.is in
    subst (λ t. OnScripted t (λ (script : Stmts) (budget : ℕ). SendsFit script)) (sym is) tt

pub returns-in_ok-outline-in-Scripted-clause-reason : goal.returns-in_ok-outline-in-Scripted-clause-reason
returns-in_ok-outline-in-Scripted-clause-reason c =
    let s = scenario_of c.args.scenario.now in
    let host = c.args.host in
    let script = script_of c.in-Scripted.script in
    let budget = c.in-Scripted.budget in
    let o = outline_of c.in_ok-outline-in-Scripted.outline in
    let is = scripted_task s host c.nexus_in.result.now c.nexus_in.ensures.nexus c.in-Scripted.script budget c.in-Scripted.is in
    let least = subst (λ t. OnScripted t (λ b n. IsLeastSound s b o)) is c.in_ok-outline-in-Scripted.ensures.least in
    IfErr-weaker c.check_fit.result (λ refusal. (n : ℕ) → cost_of_all script ≤ n → IsRefusal s script n o refusal) (λ refusal. refusal ≢ Memory → HasReason s host refusal)
    (λ refusal refused. has_reason s host script budget is o c.in_ok-outline-in-Scripted.ensures.host least refusal (refused budget c.in_ok-check_cost-in-Scripted.ensures.within)) c.check_fit.ensures.refusal

pub returns-in_err-check_cost-in-Scripted-clause-reason : goal.returns-in_err-check_cost-in-Scripted-clause-reason
returns-in_err-check_cost-in-Scripted-clause-reason c =
    let s = scenario_of c.args.scenario.now in
    let host = c.args.host in
    let script = script_of c.in-Scripted.script in
    let budget = c.in-Scripted.budget in
    let is = scripted_task s host c.nexus_in.result.now c.nexus_in.ensures.nexus c.in-Scripted.script budget c.in-Scripted.is in
    let Q = λ (refusal : Refusal). refusal ≢ Memory → HasReason s host refusal in
    let over = c.in_err-check_cost-in-Scripted.ensures.over in
    let p = err_from_is_err_and c.from_residual.result c.from_residual.ensures.1 in
    subst (λ r. IfErr r Q) (sym p.1) (subst Q (sym (p.2 ∙ over.1)) (λ real. record { script = script; budget = budget; is = is; reason = (refl, over.0, refl) }))
