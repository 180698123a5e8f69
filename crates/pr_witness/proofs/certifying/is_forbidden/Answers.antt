use Rattle.pr_witness.proofs.Common.{◌<◌, length, ap, ◌∙◌, arith, scenario_of, UnitState, within_parts}
use Rattle.pr_witness.proofs.lemmas.FollowedHistories.{control_there}
use Rattle.pr_witness.proofs.certifying.is_forbidden.Goals as goal

pub next_command-requires : goal.next_command-requires
next_command-requires c =
    control_there _ _ _ c.requires (within_parts _ _ _ _ _ c.parts.ensures.value c.from.ensures c.len.ensures c.if-from-len.false)

pub nexus_in-requires : goal.nexus_in-requires
nexus_in-requires c = within_parts _ _ _ _ _ c.parts.ensures.value c.from.ensures c.len.ensures c.if-from-len.false

pub permits-requires : goal.permits-requires
permits-requires c =
    let there : c.in-Sent-OutOfRole.host < length (scenario_of c.args.scenario.now).nexuses = within_parts _ _ _ _ _ c.parts.ensures.value c.from.ensures c.len.ensures c.if-from-len.false in
    let hosts = ap (λ (u : UnitState). u.registry.hosts) c.unit.ensures ∙ c.requires.hosts in
    omega (arith, there, hosts)
