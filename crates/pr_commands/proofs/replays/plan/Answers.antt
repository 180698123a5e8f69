-- The scenario that was read, its steps, and its replay.
use Rattle.pr_commands.proofs.Common.{◌≡◌, List, ℕ, length, Some, sym, ap, ◌∙◌, subst, arith, map, option_map, IfSome, All, scenario_of, IsThere, names_in, names_of, steps_of, names_of_scenario}
use Rattle.pr_commands.proofs.lemmas.Steps.Words.{few_nexuses}
use Rattle.pr_commands.proofs.lemmas.Replays.Plans.{version_of_scenario, nexuses_in, named_length, planned, unnamed, few_steps}
use Rattle.pr_commands.proofs.replays.plan.Goals as goal

pub steps_of-requires : goal.steps_of-requires
steps_of-requires g c =
    omega (arith, few_nexuses c.in_ok-scenario.scenario c.parts-parts.ensures.fits, ap length c.deref.ensures.value, ap (λ p. length p.nexuses.items) c.parts-parts.ensures.value)

pub returns-in_default-clause-planned : goal.returns-in_default-clause-planned
returns-in_default-clause-planned g c =
    let steps : List (List ℕ) = map (λ s. s.now) c.args.steps.now in
    let p = c.in_ok-scenario.scenario in
    let counted = sym c.has_wrong_count.ensures ∙ c.if-has_wrong_count.false in
    let here : names_of c.deref.result.now ≡ names_in (scenario_of p) = ap names_of (c.deref.ensures.value ∙ ap (λ p. p.nexuses.items) c.parts-parts.ensures.value) ∙ names_of_scenario p in
    let version : c.parts-parts.result.now.version ≡ (scenario_of p).version = ap (λ p. p.version) c.parts-parts.ensures.value ∙ version_of_scenario p in
    let asked : steps_of c.parts-parts.result.now.version (names_of c.deref.result.now) steps ≡ steps_of (scenario_of p).version (names_in (scenario_of p)) steps = λ i. steps_of (version i) (here i) steps in
    let none = sym asked ∙ (sym c.in_ok-turns.ensures.named ∙ ap (option_map _) c.in_default.is) in
    unnamed steps (g.R.Read.remaining c.args.reader.now) p counted c.in_ok-scenario.ensures.read none

pub replay_as-requires-clause-there : goal.replay_as-requires-clause-there
replay_as-requires-clause-there g c =
    let p = c.in_ok-scenario.scenario in
    let long : length c.deref.result.now ≡ length (scenario_of p).nexuses =
    ap length (c.deref.ensures.value ∙ ap (λ p. p.nexuses.items) c.parts-parts.ensures.value) ∙ sym (nexuses_in p) in
    let here = subst (λ o. IfSome o (λ steps. All (IsThere (length c.deref.result.now)) steps.items)) c.in-Some.is c.in_ok-turns.ensures.there in
    subst (All (IsThere (length (scenario_of p).nexuses))) (sym c.deref-2.ensures.value) (subst (λ n. All (IsThere n) c.in-Some.turns.items) long here)

pub replay_as-requires-clause-few : goal.replay_as-requires-clause-few
replay_as-requires-clause-few g c =
    let steps : List (List ℕ) = map (λ s. s.now) c.args.steps.now in
    let named = sym c.in_ok-turns.ensures.named ∙ ap (option_map _) c.in-Some.is in
    let long = named_length c.parts-parts.result.now.version (names_of c.deref.result.now) steps c.in-Some.turns.items named in
    omega (arith, long, few_steps steps (sym c.has_wrong_count.ensures ∙ c.if-has_wrong_count.false), ap length c.deref-2.ensures.value)

pub returns-clause-planned : goal.returns-clause-planned
returns-clause-planned g c =
    let steps : List (List ℕ) = map (λ s. s.now) c.args.steps.now in
    let p = c.in_ok-scenario.scenario in
    let counted = sym c.has_wrong_count.ensures ∙ c.if-has_wrong_count.false in
    let here : names_of c.deref.result.now ≡ names_in (scenario_of p) = ap names_of (c.deref.ensures.value ∙ ap (λ p. p.nexuses.items) c.parts-parts.ensures.value) ∙ names_of_scenario p in
    let version : c.parts-parts.result.now.version ≡ (scenario_of p).version = ap (λ p. p.version) c.parts-parts.ensures.value ∙ version_of_scenario p in
    let asked : steps_of c.parts-parts.result.now.version (names_of c.deref.result.now) steps ≡ steps_of (scenario_of p).version (names_in (scenario_of p)) steps = λ i. steps_of (version i) (here i) steps in
    let named = sym asked ∙ (sym c.in_ok-turns.ensures.named ∙ (ap (option_map _) c.in-Some.is ∙ ap Some (sym c.deref-2.ensures.value))) in
    planned steps (g.R.Read.remaining c.args.reader.now) p c.in_ok-replayed.replayed c.deref-2.result.now counted c.in_ok-scenario.ensures.read named c.in_ok-replayed.ensures
