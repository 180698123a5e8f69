use Rattle.pr_verify.proofs.Common.{◌≡◌, ℕ, List, map, sym, ap, ◌∙◌, subst, rise_above, script_of, scenario_of, KeptView, outline_of, Spot, AreWritten}
use Rattle.pr_verify.specs.inside.Reviewing.{IsFirstMisfit}
use Rattle.pr_verify.proofs.lemmas.Reviewing.Findings.{spots_rise, spots_written, is_fitting, is_refusal}
use Rattle.pr_verify.proofs.lemmas.Tabling.Rows.{lines_listed}
use Rattle.pr_verify.proofs.checking.check_fit.Goals as goal

pub invariant_of-questions-clause-written : goal.invariant_of-questions-clause-written
invariant_of-questions-clause-written c =
    let keys = (scenario_of c.args.scenario.now).keys in
    subst (AreWritten keys) (sym c.deref.ensures.value) (spots_written (script_of c.args.script.now) c.in_ok-spots.spots.items c.in_ok-spots.ensures.places keys c.requires.able.written)

pub invariant_of-questions-clause-listed : goal.invariant_of-questions-clause-listed
invariant_of-questions-clause-listed c =
    subst (λ (xs : List Spot). map (λ (e : ℕ × KeptView). e.0) c.args.outline.now.views.items ≡ map (λ x. x.line) xs) (sym c.deref.ensures.value)
    (lines_listed c.args.outline.now (script_of c.args.script.now) c.in_ok-spots.spots.items c.in_ok-spots.ensures.places c.requires.sound.listed)

pub invariant_of-questions-clause-rise : goal.invariant_of-questions-clause-rise
invariant_of-questions-clause-rise c =
    ap (rise_above 0) (lines_listed c.args.outline.now (script_of c.args.script.now) c.in_ok-spots.spots.items c.in_ok-spots.ensures.places c.requires.sound.listed)
    ∙ spots_rise (script_of c.args.script.now) c.in_ok-spots.spots.items c.in_ok-spots.ensures.places (scenario_of c.args.scenario.now).keys c.requires.able.written

pub returns-in-None-clause-fitting : goal.returns-in-None-clause-fitting
returns-in-None-clause-fitting c budget cost =
    let s = scenario_of c.args.scenario.now in
    let o = outline_of c.args.outline.now in
    let spots = c.in_ok-spots.spots.items in
    let found = subst (λ xs. IsFirstMisfit s o xs c.in_ok-first_misfit.field-0) c.deref.ensures.value c.in_ok-first_misfit.ensures in
    is_fitting s (script_of c.args.script.now) o spots c.in_ok-spots.ensures.places budget cost (subst (IsFirstMisfit s o spots) c.in-None.is found)

pub returns-clause-refusal : goal.returns-clause-refusal
returns-clause-refusal c budget cost =
    let s = scenario_of c.args.scenario.now in
    let script = script_of c.args.script.now in
    let o = outline_of c.args.outline.now in
    let spots = c.in_ok-spots.spots.items in
    let places = c.in_ok-spots.ensures.places in
    let found = subst (λ xs. IsFirstMisfit s o xs c.in_ok-first_misfit.field-0) c.deref.ensures.value c.in_ok-first_misfit.ensures in
    is_refusal s script o spots places budget c.in-Some.refusal cost c.requires.sound (subst (IsFirstMisfit s o spots) c.in-Some.is found)
