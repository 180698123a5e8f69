use Rattle.pr_verify.proofs.Common.{◌≡◌, ℕ, ◌≤◌, min, Some, IfErr, sym, refl, ◌∙◌, subst, err_from_is_err_and, cost_of_all, script_of, Stmts, Scripted, task, scenario_of, Scenario, IsSound, IsFitting, OnScripted, SendsFit, IsRefusal, Outline, outline_of, Refusal}
use Rattle.std.proofs.lemmas.Result.{IfOk-weaker, IfErr-weaker}
use Rattle.pr_roles.proofs.lemmas.Scenarios.Nexuses.{scripted_task, scripted_fits}
use Rattle.pr_roles.specs.declared.refusal.Refusal.TheVariants.{OverBudget}
use Rattle.pr_sets.specs.declared.view_set.ViewSet.{Ghosts as ViewSet}
use Rattle.pr_views.specs.declared.outline.OutlineBy.{OutlineBy}
use Rattle.pr_views.specs.declared.view.ViewOf.{ViewOf}
use Rattle.pr_verify.specs.Outlines.{HostSendsFit}
use Rattle.pr_verify.specs.Refusals.{past_budgets}
use Rattle.pr_verify.specs.Rooms.{IsRefusalFor}
use Rattle.pr_verify.proofs.lemmas.Rooms.Nexuses.{scripted_there, planned_not}
use Rattle.pr_verify.proofs.lemmas.Rooms.OtherSets.{made_same, scripted_same}
use Rattle.pr_verify.proofs.lemmas.Rooms.Scripts.{on_script}
use Rattle.pr_verify.proofs.checking.check_outline.Goals as goal

pub nexus_in-requires : goal.nexus_in-requires
nexus_in-requires g c =
    scripted_there (scenario_of c.args.scenario.now) c.in_ok-outline.outline.host (scripted_same (scenario_of c.args.scenario.now) _ _ (sym c.in_ok-outline.ensures) c.requires.scripted)

pub check_cost-requires : goal.check_cost-requires
check_cost-requires g c =
    (scripted_fits (scenario_of c.args.scenario.now) c.in_ok-outline.outline.host c.nexus_in.result.now c.nexus_in.ensures.nexus c.in-Scripted.script c.in-Scripted.budget c.in-Scripted.is c.nexus_in.ensures.fits).1

pub check_sound-requires-clause-able : goal.check_sound-requires-clause-able
check_sound-requires-clause-able g c =
    let s = scenario_of c.args.scenario.now in
    let o = c.in_ok-outline.outline in
    let same = sym c.in_ok-outline.ensures in
    let fits = scripted_fits s o.host c.nexus_in.result.now c.nexus_in.ensures.nexus c.in-Scripted.script c.in-Scripted.budget c.in-Scripted.is c.nexus_in.ensures.fits in
    record { host = scripted_there s o.host (scripted_same s _ _ same c.requires.scripted); written = fits.0; made = made_same s c.args.outline.now o same c.requires.made }

pub check_fit-requires-clause-able : goal.check_fit-requires-clause-able
check_fit-requires-clause-able g c =
    let s = scenario_of c.args.scenario.now in
    let o = c.in_ok-outline.outline in
    let same = sym c.in_ok-outline.ensures in
    let fits = scripted_fits s o.host c.nexus_in.result.now c.nexus_in.ensures.nexus c.in-Scripted.script c.in-Scripted.budget c.in-Scripted.is c.nexus_in.ensures.fits in
    record { host = scripted_there s o.host (scripted_same s _ _ same c.requires.scripted); written = fits.0; made = made_same s c.args.outline.now o same c.requires.made }

pub unreachable-requires : goal.unreachable-requires
unreachable-requires g c =
    planned_not (scenario_of c.args.scenario.now) c.in_ok-outline.outline.host c.nexus_in.result.now c.nexus_in.ensures.nexus c.in-Planned.field-0 c.in-Planned.is
    (scripted_same (scenario_of c.args.scenario.now) _ _ (sym c.in_ok-outline.ensures) c.requires.scripted)

pub returns-clause-sound : goal.returns-clause-sound
returns-clause-sound g c =
    let s = scenario_of c.args.scenario.now in
    let o = outline_of c.in_ok-outline.outline in
    let is = scripted_task s o.host c.nexus_in.result.now c.nexus_in.ensures.nexus c.in-Scripted.script c.in-Scripted.budget c.in-Scripted.is in
    let sound = on_script (task s o.host) (script_of c.in-Scripted.script) c.in-Scripted.budget (λ script budget. IsSound s script o) is c.in_ok-check_sound-in-Scripted.ensures.sound in
    IfOk-weaker c.check_fit.result (λ _. (budget : ℕ) → cost_of_all (script_of c.in-Scripted.script) ≤ budget → IsFitting s (script_of c.in-Scripted.script) budget o)
    (λ _. OnScripted (task s c.args.outline.now.host) (λ script budget. IsSound s script (outline_of c.args.outline.now)))
    (λ _ fits. subst (λ (x : Outline). OnScripted (task s x.host) (λ script budget. IsSound s script x)) c.in_ok-outline.ensures sound) c.check_fit.ensures.fitting

pub returns-clause-fields : goal.returns-clause-fields
returns-clause-fields g c =
    let s = scenario_of c.args.scenario.now in
    let o = outline_of c.in_ok-outline.outline in
    let is = scripted_task s o.host c.nexus_in.result.now c.nexus_in.ensures.nexus c.in-Scripted.script c.in-Scripted.budget c.in-Scripted.is in
    IfOk-weaker c.check_fit.result (λ _. SendsFit (script_of c.in-Scripted.script)) (λ _. HostSendsFit s c.args.outline.now.host)
    (λ _ fit. subst (λ (x : Outline). HostSendsFit s x.host) c.in_ok-outline.ensures
    (on_script (task s o.host) (script_of c.in-Scripted.script) c.in-Scripted.budget (λ script budget. SendsFit script) is fit)) c.check_fit.ensures.fields

pub returns-clause-fitting : goal.returns-clause-fitting
returns-clause-fitting g c =
    let s = scenario_of c.args.scenario.now in
    let o = outline_of c.in_ok-outline.outline in
    let is = scripted_task s o.host c.nexus_in.result.now c.nexus_in.ensures.nexus c.in-Scripted.script c.in-Scripted.budget c.in-Scripted.is in
    IfOk-weaker c.check_fit.result (λ _. (budget : ℕ) → cost_of_all (script_of c.in-Scripted.script) ≤ budget → IsFitting s (script_of c.in-Scripted.script) budget o)
    (λ _. OnScripted (task s c.args.outline.now.host) (λ script budget. IsFitting s script budget (outline_of c.args.outline.now)))
    (λ _ fits. subst (λ (x : Outline). OnScripted (task s x.host) (λ script budget. IsFitting s script budget x)) c.in_ok-outline.ensures
    (on_script (task s o.host) (script_of c.in-Scripted.script) c.in-Scripted.budget (λ script budget. IsFitting s script budget o) is (fits c.in-Scripted.budget c.in_ok-check_cost-in-Scripted.ensures.within)))
    c.check_fit.ensures.fitting

-- a reason against the plain outline, by the host's own script and budget, is one against that which was handed in
told : {S : Type 0} {sets : ViewSet S} (s : Scenario) (given : OutlineBy (ViewOf S sets)) (o : Outline) (script : Stmts) (budget : ℕ) (refusal : Refusal) → o ≡ outline_of given
    → task s o.host ≡ Some (Scripted script budget) → IsRefusal s script budget o refusal → IsRefusalFor s given refusal
told s given o script budget refusal same is refused =
    subst (λ (x : Outline). OnScripted (task s x.host) (λ script budget. IsRefusal s script budget x refusal)) same
    (on_script (task s o.host) script budget (λ script budget. IsRefusal s script budget o refusal) is refused)

pub returns-clause-refusal : goal.returns-clause-refusal
returns-clause-refusal g c =
    let s = scenario_of c.args.scenario.now in
    let o = outline_of c.in_ok-outline.outline in
    let is = scripted_task s o.host c.nexus_in.result.now c.nexus_in.ensures.nexus c.in-Scripted.script c.in-Scripted.budget c.in-Scripted.is in
    IfErr-weaker c.check_fit.result (λ refusal. (budget : ℕ) → cost_of_all (script_of c.in-Scripted.script) ≤ budget → IsRefusal s (script_of c.in-Scripted.script) budget o refusal)
    (IsRefusalFor s c.args.outline.now)
    (λ refusal refused. told s c.args.outline.now o (script_of c.in-Scripted.script) c.in-Scripted.budget refusal c.in_ok-outline.ensures is
    (refused c.in-Scripted.budget c.in_ok-check_cost-in-Scripted.ensures.within)) c.check_fit.ensures.refusal

pub returns-in_err-check_cost-in-Scripted-clause-refusal : goal.returns-in_err-check_cost-in-Scripted-clause-refusal
returns-in_err-check_cost-in-Scripted-clause-refusal g c =
    let s = scenario_of c.args.scenario.now in
    let o = outline_of c.in_ok-outline.outline in
    let is = scripted_task s o.host c.nexus_in.result.now c.nexus_in.ensures.nexus c.in-Scripted.script c.in-Scripted.budget c.in-Scripted.is in
    let over = c.in_err-check_cost-in-Scripted.ensures.over in
    let p = err_from_is_err_and c.from_residual-in_err-check_cost-in-Scripted.result c.from_residual-in_err-check_cost-in-Scripted.ensures.1 in
    subst (λ r. IfErr r (IsRefusalFor s c.args.outline.now)) (sym p.1) (subst (IsRefusalFor s c.args.outline.now) (sym (p.2 ∙ over.1))
    (told s c.args.outline.now o (script_of c.in-Scripted.script) c.in-Scripted.budget (OverBudget o.host (min past_budgets (cost_of_all (script_of c.in-Scripted.script)))) c.in_ok-outline.ensures is
    (refl, over.0, refl)))

pub returns-in_err-check_sound-in-Scripted-clause-refusal : goal.returns-in_err-check_sound-in-Scripted-clause-refusal
returns-in_err-check_sound-in-Scripted-clause-refusal g c =
    let s = scenario_of c.args.scenario.now in
    let o = outline_of c.in_ok-outline.outline in
    let is = scripted_task s o.host c.nexus_in.result.now c.nexus_in.ensures.nexus c.in-Scripted.script c.in-Scripted.budget c.in-Scripted.is in
    let p = err_from_is_err_and c.from_residual-in_err-check_sound-in-Scripted.result c.from_residual-in_err-check_sound-in-Scripted.ensures.1 in
    let refused = c.in_err-check_sound-in-Scripted.ensures.refusal c.in-Scripted.budget c.in_ok-check_cost-in-Scripted.ensures.within in
    subst (λ r. IfErr r (IsRefusalFor s c.args.outline.now)) (sym p.1) (subst (IsRefusalFor s c.args.outline.now) (sym p.2)
    (told s c.args.outline.now o (script_of c.in-Scripted.script) c.in-Scripted.budget _ c.in_ok-outline.ensures is refused))
