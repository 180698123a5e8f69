use Rattle.pr_commands.proofs.Common.{◌≡◌, ◌<◌, length, sym, ap, ◌∙◌, subst, arith, scenario_of, name_of, names_in, names_of, names_of_scenario}
use Rattle.pr_shared.specs.RunAnswers.{IfSpawn}
use Rattle.pr_commands.specs.declared.fault.Fault.TheVariants as fault
use Rattle.pr_commands.specs.inside.Performances.{IsFaultFor}
use Rattle.pr_commands.proofs.lemmas.Replays.Plans.{nexuses_in}
use Rattle.pr_commands.proofs.runs.fault_for.Goals as goal

pub name_at-requires : goal.name_at-requires
name_at-requires c =
    let there = subst (IfSpawn (λ host history. host < length (scenario_of c.args.scenario.now).nexuses)) c.in-Spawn.is c.requires in
    omega (arith, there, nexuses_in c.args.scenario.now, ap length c.deref.ensures.value, ap (λ p. length p.nexuses.items) c.parts.ensures.value)

pub returns-in-Spawn-clause-exact : goal.returns-in-Spawn-clause-exact
returns-in-Spawn-clause-exact c =
    let p = c.args.scenario.now in
    let here : names_of c.deref.result.now ≡ names_in (scenario_of p) = ap names_of (c.deref.ensures.value ∙ ap (λ p. p.nexuses.items) c.parts.ensures.value) ∙ names_of_scenario p in
    subst (λ e. IsFaultFor (scenario_of p) e (fault.Thread c.name_at.result)) (sym c.in-Spawn.is)
    (c.name_at.ensures ∙ ap (λ ns. name_of ns c.in-Spawn.host) here)

pub returns-in-Spawn-clause-known : goal.returns-in-Spawn-clause-known
returns-in-Spawn-clause-known c =
    let p = c.args.scenario.now in
    let there = subst (IfSpawn (λ host history. host < length (scenario_of p).nexuses)) c.in-Spawn.is c.requires in
    let here : names_of c.deref.result.now ≡ names_in (scenario_of p) = ap names_of (c.deref.ensures.value ∙ ap (λ p. p.nexuses.items) c.parts.ensures.value) ∙ names_of_scenario p in
    (c.in-Spawn.host, there, c.name_at.ensures ∙ ap (λ ns. name_of ns c.in-Spawn.host) here)
