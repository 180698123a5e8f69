use Rattle.pr_verify.proofs.Common.{Bool, ◌≡◌, Scenario, scenario_of, ◌==◌, sym, ap, ◌∙◌, option_map_or}
use Rattle.std.proofs.Common.{not}
use Rattle.pr_roles.specs.declared.parts.Parts.{Parts}
use Rattle.pr_verify.proofs.nexus.refusals_in.Goals as goal

early_in : (p : Parts) → p.early ≡ (scenario_of p).early
unfolding scenario_of
early_in p = λ i. p.early

pub returns : goal.returns
returns c =
    let busy = c.refusals.ensures.busy ∙ ap (λ o. not (option_map_or (λ n. n.busy) o 0 == 0)) (sym c.nexus_in.ensures.nexus) in
    let full = c.refusals.ensures.full ∙ ap (λ o. not (option_map_or (λ n. n.full) o 0 == 0)) (sym c.nexus_in.ensures.nexus) in
    let early = c.refusals.ensures.early ∙ ap (λ (p : Parts). p.early) c.parts.ensures.value ∙ early_in c.args.scenario.now in
    λ i. record { busy = busy i; full = full i; early = early i }
