use Rattle.pr_verify.proofs.Common.{◌≡◌, ℕ, List, map, Some, sym, refl, ap, ◌∙◌, subst, inl, inr, rise_above, script_of, scenario_of, view_of, KeptView, IsAsked, places_of, outline_of, Spot, IsFirstLacking, place_of, AreWritten}
use Rattle.pr_verify.proofs.lemmas.Reviewing.Findings.{spots_rise, spots_written, is_listed, differs_at, differing_read, same_lines, is_sound, lacks_first}
use Rattle.pr_verify.proofs.lemmas.Reviewing.Starts.{scoped}
use Rattle.pr_verify.proofs.checking.check_sound.Goals as goal

pub returns-in-Some-clause-refusal : goal.returns-in-Some-clause-refusal
returns-in-Some-clause-refusal c budget cost =
    let host = c.args.outline.now.host in
    let views = c.args.outline.now.views.items in
    let spots = c.in_ok-spots.spots.items in
    let is = differing_read c.deref.result.now views c.deref-2.result.now spots (Some c.in-Some.line) c.deref.ensures.value c.deref-2.ensures.value c.in-Some.ensures in
    (refl, cost, inl (differs_at (script_of c.args.script.now) spots c.in_ok-spots.ensures.places (view_of host) views host c.in-Some.line is))

pub invariant_of-questions-clause-written : goal.invariant_of-questions-clause-written
invariant_of-questions-clause-written c =
    let keys = (scenario_of c.args.scenario.now).keys in
    subst (AreWritten keys) (sym c.deref-3.ensures.value) (spots_written (script_of c.args.script.now) c.in_ok-spots.spots.items c.in_ok-spots.ensures.places keys c.requires.able.written)

pub invariant_of-questions-clause-listed : goal.invariant_of-questions-clause-listed
invariant_of-questions-clause-listed c =
    subst (λ (xs : List Spot). map (λ (e : ℕ × KeptView). e.0) c.args.outline.now.views.items ≡ map (λ x. x.line) xs) (sym c.deref-3.ensures.value)
    (same_lines c.deref.result.now c.args.outline.now.views.items c.deref-2.result.now c.in_ok-spots.spots.items c.first_difference.result c.deref.ensures.value c.deref-2.ensures.value c.first_difference.ensures c.in_default.is)

pub invariant_of-questions-clause-rise : goal.invariant_of-questions-clause-rise
invariant_of-questions-clause-rise c =
    ap (rise_above 0) (same_lines c.deref.result.now c.args.outline.now.views.items c.deref-2.result.now c.in_ok-spots.spots.items c.first_difference.result c.deref.ensures.value c.deref-2.ensures.value c.first_difference.ensures c.in_default.is)
    ∙ spots_rise (script_of c.args.script.now) c.in_ok-spots.spots.items c.in_ok-spots.ensures.places (scenario_of c.args.scenario.now).keys c.requires.able.written

pub first_unsound-requires-clause-places : goal.first_unsound-requires-clause-places
first_unsound-requires-clause-places c =
    subst (λ (xs : List Spot). map place_of xs ≡ places_of (script_of c.args.script.now)) (sym c.deref-3.ensures.value) c.in_ok-spots.ensures.places

pub returns-in-None-clause-sound : goal.returns-in-None-clause-sound
returns-in-None-clause-sound c =
    let s = scenario_of c.args.scenario.now in
    let script = script_of c.args.script.now in
    let o = outline_of c.args.outline.now in
    let host = c.args.outline.now.host in
    let views = c.args.outline.now.views.items in
    let spots = c.in_ok-spots.spots.items in
    let places = c.in_ok-spots.ensures.places in
    let same = same_lines c.deref.result.now views c.deref-2.result.now spots c.first_difference.result c.deref.ensures.value c.deref-2.ensures.value c.first_difference.ensures c.in_default.is in
    let found = subst (IsFirstLacking o (IsAsked s script o)) c.in-None.is c.in_ok-first_unsound.ensures in
    is_sound s script o spots places (is_listed script spots places (view_of host) views host same) (scoped s c.args.outline.now c.requires.able.made) found

pub returns-clause-refusal : goal.returns-clause-refusal
returns-clause-refusal c budget cost =
    let s = scenario_of c.args.scenario.now in
    let script = script_of c.args.script.now in
    let o = outline_of c.args.outline.now in
    let host = c.args.outline.now.host in
    let views = c.args.outline.now.views.items in
    let spots = c.in_ok-spots.spots.items in
    let places = c.in_ok-spots.ensures.places in
    let same = same_lines c.deref.result.now views c.deref-2.result.now spots c.first_difference.result c.deref.ensures.value c.deref-2.ensures.value c.first_difference.ensures c.in_default.is in
    let listed = is_listed script spots places (view_of host) views host same in
    (refl, cost, inr (lacks_first s script o spots places c.in-Some-2.line listed (subst (IsFirstLacking o (IsAsked s script o)) c.in-Some-2.is c.in_ok-first_unsound.ensures)))
