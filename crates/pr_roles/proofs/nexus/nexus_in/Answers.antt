use Rattle.pr_roles.proofs.Common.{◌≡◌, ℕ, ◌<◌, length, slice_index_or, Some, sym, ap, ◌∙◌, subst, arith, nexus_of, Parts}
use Rattle.pr_roles.specs.declared.parts.Nexus.{Nexus}
use Rattle.pr_roles.proofs.lemmas.Scenarios.Nexuses.{nexus_at}
use Rattle.pr_roles.proofs.lemmas.Scenarios.Parts.{count_of_parts}
use Rattle.pr_roles.proofs.nexus.nexus_in.Goals as goal

pub index-requires : goal.index-requires
index-requires c =
    let there = c.requires in
    let same = ap (λ (p : Parts). length p.nexuses.items) c.parts.ensures.value in
    let count = count_of_parts c.args.scenario.now in
    let host = c.from.ensures in
    omega arith

pub returns-clause-nexus : goal.returns-clause-nexus
returns-clause-nexus c =
    let s = c.args.scenario.now in
    let small : c.args.host < length s.nexuses.items = subst (λ n. c.args.host < n) (count_of_parts s) c.requires in
    let read : c.index.result.now ≡ _ = c.index.ensures ∙ ap (λ (p : Parts). slice_index_or p.nexuses.items c.from.result c.index.result.now) c.parts.ensures.value
    ∙ ap (λ (k : ℕ). slice_index_or s.nexuses.items k c.index.result.now) c.from.ensures in
    nexus_at s c.args.host c.index.result.now small ∙ ap (λ (n : Nexus). Some (nexus_of n)) (sym read)
