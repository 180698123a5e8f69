use Rattle.pr_world.proofs.Common.{◌<◌, false, get_or, length, sym, ap, ◌∙◌, arith, scenario_of, Parts}
use Rattle.std.proofs.lemmas.List.{get_or-map}
use Rattle.pr_roles.proofs.lemmas.Scenarios.Parts.{count_of_parts}
use Rattle.pr_world.proofs.course.is_shared.Goals as goal

pub index-requires : goal.index-requires
index-requires c = omega (arith, c.requires, count_of_parts c.args.scenario.now, ap (λ (p : Parts). length p.nexuses.items) c.parts.ensures.value, c.from.ensures)

pub returns : goal.returns
unfolding scenario_of
returns c =
    let p = c.args.scenario.now in
    let there : c.args.host < length p.nexuses.items = omega (arith, c.requires, count_of_parts p) in
    ap (λ n. n.shared) c.index.ensures ∙ (λ i. (get_or (c.parts.ensures.value i).nexuses.items (c.from.ensures i) c.index.result.now).shared) ∙ sym (get_or-map (λ n. n.shared) p.nexuses.items c.args.host c.index.result.now false there)
