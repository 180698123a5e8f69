-- What is found, and that it is well formed and allowed.
use Rattle.pr_roles.proofs.Common.{length, is_some, Some, option_map, sym, ap, ◌∙◌, arith, false≢true, quiet_unit, scenario_of}
use Rattle.pr_roles.proofs.lemmas.Starts.AllowedStarts.{few_parts, found_in_parts, none_allowed, registry_found, registry_allowed, first_allowed}
use Rattle.pr_roles.proofs.parts.Parts.first_registry.Goals as goal

pub first_under-requires : goal.first_under-requires
first_under-requires c = omega (arith, few_parts c.args.self.now c.requires, ap length c.deref.ensures.value)

pub returns-in_err-held-clause-value : goal.returns-in_err-held-clause-value
returns-in_err-held-clause-value c =
    let none = sym (found_in_parts c.args.self.now _ _ c.deref.ensures.value c.deref-2.ensures.value) ∙ (sym c.first_under.ensures ∙ ap (option_map _) c.in_err-held.was) in
    ap (option_map (λ r. quiet_unit r)) c.from_residual.ensures ∙ sym (ap (option_map _) none)

pub returns-in_err-held-clause-exactly : goal.returns-in_err-held-clause-exactly
returns-in_err-held-clause-exactly c =
    let none = sym (found_in_parts c.args.self.now _ _ c.deref.ensures.value c.deref-2.ensures.value) ∙ (sym c.first_under.ensures ∙ ap (option_map _) c.in_err-held.was) in (
      λ some. absurd (false≢true (sym (ap is_some c.from_residual.ensures) ∙ some)),
      λ can. absurd (none_allowed (scenario_of c.args.self.now) none can),
    )

pub returns-clause-value : goal.returns-clause-value
unfolding scenario_of
returns-clause-value c =
    let found = sym (found_in_parts c.args.self.now _ _ c.deref.ensures.value c.deref-2.ensures.value)
    ∙ (sym c.first_under.ensures ∙ (ap (option_map _) c.in_ok-held.was ∙ ap (λ l. Some (c.in_ok-held.held, l)) (sym c.deref-3.ensures.0))) in
    let s = scenario_of c.args.self.now in
    let allowed = first_allowed s c.in_ok-held.held c.deref-3.result.now c.requires c.registry_of.ensures.room found in
    registry_found s c.in_ok-held.held c.deref-3.result.now c.registry_of.result found c.registry_of.ensures.value (c.registry_of.ensures.exactly.1 allowed.0)

pub returns-clause-exactly : goal.returns-clause-exactly
unfolding scenario_of
returns-clause-exactly c =
    let found = sym (found_in_parts c.args.self.now _ _ c.deref.ensures.value c.deref-2.ensures.value)
    ∙ (sym c.first_under.ensures ∙ (ap (option_map _) c.in_ok-held.was ∙ ap (λ l. Some (c.in_ok-held.held, l)) (sym c.deref-3.ensures.0))) in
    let s = scenario_of c.args.self.now in
    let allowed = first_allowed s c.in_ok-held.held c.deref-3.result.now c.requires c.registry_of.ensures.room found in (
      λ some. record { unit = _; allowed = allowed.1 },
      λ can. c.registry_of.ensures.exactly.1 allowed.0,
    )

pub returns-clause-allowed : goal.returns-clause-allowed
unfolding scenario_of
returns-clause-allowed c =
    let found = sym (found_in_parts c.args.self.now _ _ c.deref.ensures.value c.deref-2.ensures.value)
    ∙ (sym c.first_under.ensures ∙ (ap (option_map _) c.in_ok-held.was ∙ ap (λ l. Some (c.in_ok-held.held, l)) (sym c.deref-3.ensures.0))) in
    let s = scenario_of c.args.self.now in
    let allowed = first_allowed s c.in_ok-held.held c.deref-3.result.now c.requires c.registry_of.ensures.room found in
    registry_allowed s c.in_ok-held.held c.deref-3.result.now c.registry_of.result allowed.1 c.registry_of.ensures.value
