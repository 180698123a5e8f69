use Rattle.pr_witness.proofs.Common.{ℕ, List, refl, ap, ◌∙◌, map, Item}
use Rattle.std.specs.List.{range_with_len}
use Rattle.pr_roles.specs.Worlds.{commands_by}
use Rattle.pr_witness.proofs.lemmas.FollowedHistories.{parts_count}
use Rattle.pr_witness.proofs.certifying.run_of.Goals as goal

pub returns : goal.returns
returns c =
    let counts = c.in_ok-counts.ensures ∙ ap (λ (es : List Item). map (commands_by es) (range_with_len 0 c.len.result)) c.deref.ensures.value
    ∙ ap (λ (n : ℕ). map (commands_by c.args.history.items) (range_with_len 0 n)) (parts_count _ _ _ c.parts.ensures.value c.len.ensures) in
    record {
      starts = refl;
      items = refl;
      tells = record { unit = c.copy-unit.ensures ∙ c.unit.ensures; ends = c.in_ok-ends.ensures; counts = counts };
    }
