use Rattle.pr_witness.proofs.Common.{◌≡◌, List, length, Option, ap, ◌∙◌, subst, arith, Parts, MayStartBelow}
use Rattle.std.specs.List.{Contains}
use Rattle.pr_registry.specs.declared.held.Held.{Held}
use Rattle.pr_registry.specs.Registrations.{State}
use Rattle.pr_roles.specs.declared.parts.Nexus.{Nexus}
use Rattle.pr_witness.proofs.lemmas.AllowedStarts.{allowed}
use Rattle.pr_witness.proofs.allowed.is_allowed_start.Goals as goal

pub returns-then-may_hold : goal.returns-then-may_hold
returns-then-may_hold c holds =
    let p = c.args.scenario.now in
    let u = c.args.unit.now in
    let registry = c.registry-registry.ensures.value in
    let reservations = c.deref.ensures.value ∙ ap (λ (q : Parts). q.reservations.items) c.parts-parts.ensures.value in
    let nexuses = c.deref-then-may_hold.ensures.value ∙ ap (λ (q : Parts). q.nexuses.items) c.parts-parts.ensures.value in
    let top = c.hosts.ensures.value ∙ ap (λ (r : State). r.hosts) registry in
    let from = c.from.ensures in
    let len = c.len.ensures in
    let same = c.if-from-len.false in
    let items = ap (λ (q : Parts). length q.nexuses.items) c.parts-parts.ensures.value in
    let all = c.parts-parts.result.now.nexuses.ok.0 in
    let hosts : u.registry.hosts ≡ length p.nexuses.items = omega (arith, top, from, len, same, items, all) in
    let held = subst (λ (k : Option Held). Contains p.reservations.items k) (ap (λ (r : State). r.held) registry)
    (subst (λ (ks : List (Option Held)). Contains ks c.registry-registry.result.now.held) reservations (c.may_hold.ensures c.if-may_hold.true)) in
    let below = subst (λ (ns : List Nexus). MayStartBelow ns u u.registry.hosts) nexuses (c.may_start_each.ensures holds) in
    allowed p u c.registry-registry.ensures.well_formed hosts held below
