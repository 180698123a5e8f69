-- Agrees with docs/MODEL.md, 'Attentions'.
-- The test whether two sets of codes are equal.
use Rattle.std.specs.Prelude.{◌≡◌, ◌↔◌, ◌&&◌, Bool, true}
use Rattle.std.specs.Cmp.{IsEquivalence, decided, both_ways, nat_cmp_total}
use Rattle.std.specs.FinSet as set
use Rattle.std.specs.FinSet.{nat_cmp-IsAntisymmetric}
use Rattle.std.proofs.Common.{sym, ap, ◌∙◌}
use Rattle.std.proofs.lemmas.Bool.{and_parts}
use Rattle.pr_attention.specs.Attentions.{Codes}

-- each has the other's members
abbrev pub is_same : Codes → Codes → Bool
is_same codes others = set.is_subset codes others && set.is_subset others codes

-- then they are equal, and else they are not
pub is_same-tells : (codes others : Codes) → (is_same codes others ≡ true) ↔ (codes ≡ others)
is_same-tells codes others = (
  λ both. let parts = and_parts (set.is_subset codes others) (set.is_subset others codes) both in
      set.same_set nat_cmp_total nat_cmp-IsAntisymmetric codes others (λ q. both_ways (set.contains codes q) (set.contains others q)
      (set.is_subset-contains nat_cmp_total codes others parts.0 q) (set.is_subset-contains nat_cmp_total others codes parts.1 q)),
  λ same. sym (ap (is_same codes) same) ∙ ap (λ b. b && b) (set.contains-is_subset nat_cmp_total codes codes (λ q there. there)),
)

pub is_same-IsEquivalence : IsEquivalence is_same
is_same-IsEquivalence = decided is_same is_same-tells
