-- Its task is that of its nexus.
use Rattle.pr_roles.proofs.Common.{◌≤◌, Some, length, sym, ap, ◌∙◌, arith, nat_tests, Parts, scenario_of}
use Rattle.pr_roles.specs.declared.parts.Task.{Task}
use Rattle.pr_roles.specs.Scenarios.{task_of}
use Rattle.pr_roles.proofs.lemmas.Scenarios.Nexuses.{nexus_found, task_past, task_read}
use Rattle.pr_roles.proofs.lemmas.Scenarios.Parts.{count_of_parts}
use Rattle.pr_roles.specs.Tasks.{has_script}
use Rattle.pr_roles.proofs.nexus.has_script.Goals as goal

pub returns-in-Scripted : goal.returns-in-Scripted
returns-in-Scripted c =
    let p = c.args.scenario.now in
    let are = c.deref.ensures.value ∙ ap (λ (q : Parts). q.nexuses.items) c.parts.ensures.value in
    let is = task_read (scenario_of p) c.args.host c.in-Some.nexus.now (nexus_found p c.deref.result.now c.from.result c.args.host c.in-Some.nexus.now are c.in-Some.ensures.lookup.0 c.in-Some.ensures.lookup.1 c.from.ensures) in
    sym (ap has_script is ∙ ap (λ (t : Task). has_script (Some (task_of t))) c.in-Scripted.is)

pub returns-in_default : goal.returns-in_default
returns-in_default c =
    let p = c.args.scenario.now in
    let are = c.deref.ensures.value ∙ ap (λ (q : Parts). q.nexuses.items) c.parts.ensures.value in
    let is = task_read (scenario_of p) c.args.host c.in-Some.nexus.now (nexus_found p c.deref.result.now c.from.result c.args.host c.in-Some.nexus.now are c.in-Some.ensures.lookup.0 c.in-Some.ensures.lookup.1 c.from.ensures) in
    sym (ap has_script is ∙ ap (λ (t : Task). has_script (Some (task_of t))) c.in_default.is)

pub returns-in-None : goal.returns-in-None
returns-in-None c =
    let p = c.args.scenario.now in
    let items = ap length (c.deref.ensures.value ∙ ap (λ (q : Parts). q.nexuses.items) c.parts.ensures.value) in
    let past : length c.deref.result.now ≤ c.from.result = grind (arith, nat_tests, c.in-None.ensures.lookup.0) in
    sym (ap has_script (task_past (scenario_of p) c.args.host (omega (arith, past, items, count_of_parts p, c.from.ensures))))
