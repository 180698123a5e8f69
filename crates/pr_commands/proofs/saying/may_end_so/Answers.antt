-- Its task is that of its nexus.
use Rattle.std.proofs.Common.{◌≤◌, Some, length, sym, ap, ◌∙◌, arith}
use Rattle.std.proofs.lemmas.Bool.Decides.{nat_tests}
use Rattle.pr_roles.specs.declared.parts.Parts.{Parts}
use Rattle.pr_roles.specs.declared.parts.Task.{Task}
use Rattle.pr_roles.specs.Scenarios.{scenario_of, task_of}
use Rattle.pr_roles.proofs.lemmas.Scenarios.Nexuses.{nexus_found, task_past, task_read}
use Rattle.pr_roles.proofs.lemmas.Scenarios.Parts.{count_of_parts}
use Rattle.pr_explore.specs.Together.{exit_in}
use Rattle.pr_commands.specs.Sayings.{may_end_so}
use Rattle.pr_commands.proofs.saying.may_end_so.Goals as goal

pub returns-in-Scripted : goal.returns-in-Scripted
returns-in-Scripted c =
    let p = c.args.scenario.now in
    let x = exit_in (Some c.args.end.now) in
    let are = c.deref.ensures.value ∙ ap (λ (q : Parts). q.nexuses.items) c.parts.ensures.value in
    let is = task_read (scenario_of p) c.args.host c.in-Some.nexus.now (nexus_found p c.deref.result.now c.from.result c.args.host c.in-Some.nexus.now are c.in-Some.ensures.lookup.0 c.in-Some.ensures.lookup.1 c.from.ensures) in
    c.script_says.ensures ∙ sym (ap (may_end_so x) is ∙ ap (λ (t : Task). may_end_so x (Some (task_of t))) c.in-Scripted.is)

pub returns-in-Planned : goal.returns-in-Planned
returns-in-Planned c =
    let p = c.args.scenario.now in
    let x = exit_in (Some c.args.end.now) in
    let are = c.deref.ensures.value ∙ ap (λ (q : Parts). q.nexuses.items) c.parts.ensures.value in
    let is = task_read (scenario_of p) c.args.host c.in-Some.nexus.now (nexus_found p c.deref.result.now c.from.result c.args.host c.in-Some.nexus.now are c.in-Some.ensures.lookup.0 c.in-Some.ensures.lookup.1 c.from.ensures) in
    sym (ap (may_end_so x) is ∙ ap (λ (t : Task). may_end_so x (Some (task_of t))) c.in-Planned.is)

pub returns-in-None : goal.returns-in-None
returns-in-None c =
    let p = c.args.scenario.now in
    let items = ap length (c.deref.ensures.value ∙ ap (λ (q : Parts). q.nexuses.items) c.parts.ensures.value) in
    let past : length c.deref.result.now ≤ c.from.result = grind (arith, nat_tests, c.in-None.ensures.lookup.0) in
    sym (ap (may_end_so (exit_in (Some c.args.end.now))) (task_past (scenario_of p) c.args.host (omega (arith, past, items, count_of_parts p, c.from.ensures))))
