use Rattle.pr_witness.proofs.Common.{[], ◌∷◌, ◌++◌, ◌<◌, List, Option, Some, length, take, sym, ap, ◌∙◌, arith, map, UnitState, scenario_of, End, world_at, ending_of}
use Rattle.std.proofs.lemmas.List.{map-append}
use Rattle.pr_registry.specs.Registrations.{State}
use Rattle.pr_audit.specs.Ends.{Ending}
use Rattle.pr_witness.proofs.lemmas.Ends.{all_endings, endings_more, endings_over, plan_short}
use Rattle.pr_witness.proofs.certifying.ends_of.Goals as goal

pub planned-requires : goal.planned-requires
planned-requires c = plan_short _ _ c.nexus_in.result.now c.nexus_in.ensures.fits c.nexus_in.ensures.nexus

pub loop-host-preserved : goal.loop-host-preserved
loop-host-preserved c =
    let s = scenario_of c.args.scenario.now in
    let w = world_at c.args.auditor.now [] in
    let end_of : End → Option Ending = λ e. Some (ending_of e) in
    let test = c.loop-host-test.true in
    let hosts = c.hosts-host-end.ensures.value ∙ ap (λ (r : State). r.hosts) (c.registry.ensures.value ∙ ap (λ (u : UnitState). u.registry) c.unit.ensures) ∙ c.requires.hosts in
    let there : c.loop-host.host < length s.nexuses = omega (arith, test, hosts) in
    ap (map end_of) c.in_ok-push.ensures.items
    ∙ map-append end_of c.loop-host.ends.items (c.end.result ∷ [])
    ∙ ap (λ (es : List (Option Ending)). es ++ end_of c.end.result ∷ []) c.loop-host.invariant
    ∙ ap (λ (e : Option Ending). take c.loop-host.host (all_endings s w) ++ e ∷ []) (sym (c.end.ensures _ (sym c.planned.ensures)))
    ∙ sym (endings_more s w c.loop-host.host c.nexus_in.result.now c.requires there c.nexus_in.ensures.nexus)

pub returns : goal.returns
returns c =
    let s = scenario_of c.args.scenario.now in
    let test = c.loop-host-test.false in
    let hosts = c.hosts-host-end.ensures.value ∙ ap (λ (r : State). r.hosts) (c.registry.ensures.value ∙ ap (λ (u : UnitState). u.registry) c.unit.ensures) ∙ c.requires.hosts in
    c.loop-host.invariant ∙ endings_over s (world_at c.args.auditor.now []) c.loop-host.host (omega (arith, test, hosts))
