-- The nexus with this name, if it has a script.
use Rattle.pr_commands.proofs.Common.{◌≡◌, ℕ, List, Some, None, Option, Bool, length, true, false, sym, ap, ◌∙◌, arith, option_and_then, Parts, Scenario, scenario_of, task, names_in, names_of, has_script, names_of_scenario}
use Rattle.std.proofs.Common.{if◌then◌else◌}
use Rattle.pr_roles.specs.declared.parts.Nexus.{Nexus}
use Rattle.pr_trace.specs.TraceReadings.{number_of}
use Rattle.pr_commands.specs.Tables.{if_scripted, scripted_host}
use Rattle.pr_commands.proofs.lemmas.Steps.Words.{few_nexuses}
use Rattle.pr_commands.proofs.tables.scripted_host.Goals as goal

named : (p : Parts) (ns : List Nexus) (name : List ℕ) (o : Option ℕ) → ns ≡ p.nexuses.items → o ≡ number_of (names_of ns) name
    → o ≡ number_of (names_in (scenario_of p)) name
named p ns name o are is = is ∙ ap (λ names. number_of names name) (ap names_of are ∙ names_of_scenario p)

found : (s : Scenario) (name : List ℕ) (h : ℕ) (b : Bool) → Some h ≡ number_of (names_in s) name → has_script (task s h) ≡ b → (if b then Some h else None) ≡ scripted_host s name
found s name h b is has = ap (λ c. if c then Some h else None) (sym has) ∙ ap (option_and_then (if_scripted s)) is

pub number_of-requires : goal.number_of-requires
number_of-requires c =
    omega (arith, few_nexuses c.args.scenario.now c.parts.ensures.fits, ap length c.deref.ensures.value, ap (λ (p : Parts). length p.nexuses.items) c.parts.ensures.value)

pub returns-in_err-host-clause-host : goal.returns-in_err-host-clause-host
returns-in_err-host-clause-host c =
    let p = c.args.scenario.now in
    let are = c.deref.ensures.value ∙ ap (λ (q : Parts). q.nexuses.items) c.parts.ensures.value in
    c.from_residual.ensures ∙ ap (option_and_then (if_scripted (scenario_of p))) (named p c.deref.result.now c.args.name.now None are c.in_err-host.ensures.number)

pub returns-then-has_script-clause-host : goal.returns-then-has_script-clause-host
returns-then-has_script-clause-host c =
    let p = c.args.scenario.now in
    let are = c.deref.ensures.value ∙ ap (λ (q : Parts). q.nexuses.items) c.parts.ensures.value in
    found (scenario_of p) c.args.name.now c.in_ok-host.host true (named p c.deref.result.now c.args.name.now (Some c.in_ok-host.host) are c.in_ok-host.ensures.number) (sym c.has_script.ensures ∙ c.if-has_script.true)

pub returns-else-has_script-clause-host : goal.returns-else-has_script-clause-host
returns-else-has_script-clause-host c =
    let p = c.args.scenario.now in
    let are = c.deref.ensures.value ∙ ap (λ (q : Parts). q.nexuses.items) c.parts.ensures.value in
    found (scenario_of p) c.args.name.now c.in_ok-host.host false (named p c.deref.result.now c.args.name.now (Some c.in_ok-host.host) are c.in_ok-host.ensures.number) (sym c.has_script.ensures ∙ c.if-has_script.false)
