use Rattle.std.proofs.Common.{◌≡◌, map, ap, ◌∙◌}
use Rattle.pr_roles.specs.declared.parts.Nexus.{Nexus}
use Rattle.pr_roles.specs.declared.parts.Parts.{Parts}
use Rattle.pr_roles.specs.Scenarios.{task_of}
use Rattle.pr_explain.specs.Costs.{cost_of}
use Rattle.pr_explain.proofs.lemmas.ScriptCosts.{costs_in}
use Rattle.pr_explain.proofs.planning.accepted.Goals as goal

pub returns-clause-holds : goal.returns-clause-holds
returns-clause-holds c =
    let nexuses : c.deref.result.now ≡ c.args.scenario.nexuses.items = c.deref.ensures.value ∙ ap (λ (p : Parts). p.nexuses.items) c.parts.ensures.value in (c.requires, costs_in c.args.scenario c.in_ok-costs.costs.items (c.in_ok-costs.ensures ∙ ap (map (λ (n : Nexus). cost_of (task_of n.task))) nexuses))
