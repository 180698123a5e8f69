use Rattle.pr_witness.proofs.Common.{◌≡◌, ℕ, [], Some, refl, ap, ◌∙◌, arith, nat_tests, End, ending_of, within_parts}
use Rattle.pr_audit.specs.Ends.{traps}
use Rattle.pr_witness.proofs.lemmas.Ends.{trapped_from}
use Rattle.pr_witness.proofs.lemmas.FollowedHistories.{control_there}
use Rattle.pr_witness.proofs.certifying.is_trapped.Goals as goal

pub end-requires : goal.end-requires
end-requires c =
    control_there _ _ _ c.requires (within_parts _ _ _ _ _ c.parts.ensures.value c.from.ensures c.len.ensures c.if-from-len.false)

pub returns-in-Trapped : goal.returns-in-Trapped
returns-in-Trapped c holds =
    let same : c.in-Trapped.at ≡ c.args.line = grind (arith, nat_tests, holds) in
    trapped_from _ _ (c.end.ensures [] refl ∙ ap (λ (e : End). Some (ending_of e)) c.in-Trapped.is ∙ ap (λ (at : ℕ). Some (traps at)) same)
