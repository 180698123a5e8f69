-- What is added to possibilities, step by step.
use Rattle.pr_interference.proofs.Common.{◌≡◌, ℕ, ◌+◌, ◌<◌, ◌⊎◌, List, length, slice_index_or, sym, ◌∙◌, subst, inl, inr, BitSet, UnitState, view_in, Scope, Item, IsPossible, Possibilities, IsAt, Changes, Place, Branch, Transition, Adds, adds_both, IsJoined, Any, IsLedBy, IsLeftBy}
use Rattle.pr_regions.specs.declared.region.Region.{Region}
use Rattle.pr_regions.specs.declared.region.Ending.TheVariants as ending
use Rattle.pr_interference.specs.inside.Interfering.{IsAfter, IsChanged}
use Rattle.pr_regions.proofs.lemmas.Keeping.Additions.{AnyBelow, any_or_last, grown, joined_old, joined_other, joined_either}

-- the same, said otherwise
pub adds_so : (s : Scope) (p q : Possibilities) (L M : UnitState → UnitState → Type 0) (V W : Item → Type 0) → Adds s p q L V
    → ((u w : UnitState) → M u w → L u w) → ((i : Item) → V i → W i) → Adds s p q M W
adds_so s p q L M V W adds leads leaves = record {
  kept = adds.kept;
  all = λ u w led. adds.all u w (leads u w led);
  only = λ i is. only i (adds.only i is);
}
  where
    only : (i : Item) → IsPossible (view_in s p) i ⊎ V i → IsPossible (view_in s p) i ⊎ W i
    only i (inl is) = inl is
    only i (inr is) = inr (leaves i is)

pub adds_after : (s : Scope) (view old after new : Possibilities) (place : Place) (senders : BitSet) (region : Region) (change : Transition)
    → IsAfter s view place senders region change after → IsJoined old after new
    → Adds s old new (λ u w. IsAt (view_in s view) place senders region u × Changes s place.sender change u w) (IsChanged s view place senders region change)
adds_after s view old after new place senders region change is joined = record {
  kept = λ i had. joined_old s old after new i joined had;
  all = λ u w led. grown s after new w (λ i so. joined_other s old after new i joined so) (is.all u w led.0 led.1);
  only = λ i got. only i (joined_either s old after new i joined got);
}
  where
    only : (i : Item) → IsPossible (view_in s old) i ⊎ IsPossible (view_in s after) i → IsPossible (view_in s old) i ⊎ IsChanged s view place senders region change i
    only i (inl had) = inl had
    only i (inr got) = inr (is.only i got)

-- ---- one after another

-- one element more
pub adds_element : {X : Type 0} (s : Scope) (p q r : Possibilities) (n : ℕ) (xs : List X) (x : X) (leads : X → UnitState → UnitState → Type 0) (leaves : X → Item → Type 0)
    → n < length xs → slice_index_or xs n x ≡ x
    → Adds s p q (λ u w. AnyBelow n (λ y. leads y u w) xs) (λ i. Any (λ y. leaves y i) xs) → Adds s q r (leads x) (leaves x)
    → Adds s p r (λ u w. AnyBelow (n + 1) (λ y. leads y u w) xs) (λ i. Any (λ y. leaves y i) xs)
adds_element {X} s p q r n xs x leads leaves small there before now =
    adds_both s p q r (λ u w. AnyBelow n (λ y. leads y u w) xs) (leads x) (λ u w. AnyBelow (n + 1) (λ y. leads y u w) xs)
    (λ i. Any (λ y. leaves y i) xs) (leaves x) (λ i. Any (λ y. leaves y i) xs) before now
    (λ u w. any_or_last (λ y. leads y u w) xs n x small there)
    (λ i any. any) (λ i left. (n, x, small, there, left))

-- ---- a branch

pub adds_branch : (s : Scope) (view old after new : Possibilities) (place : Place) (senders : BitSet) (branch : Branch) (change : Transition) → branch.ending ≡ ending.Good change
    → IsAfter s view place senders branch.region change after → IsJoined old after new → Adds s old new (IsLedBy s view place senders branch) (IsLeftBy s view place senders branch)
adds_branch s view old after new place senders branch change good is joined =
    adds_so s old new (λ u w. IsAt (view_in s view) place senders branch.region u × Changes s place.sender change u w) (IsLedBy s view place senders branch)
    (IsChanged s view place senders branch.region change) (IsLeftBy s view place senders branch)
    (adds_after s view old after new place senders branch.region change is joined)
    (λ u w led. (led.at, subst (λ c. Changes s place.sender c u w) (same led.change led.good) led.changes))
    (λ i changed. record { change = change; good = good; changed = changed })
  where
    same : (c : Transition) → branch.ending ≡ ending.Good c → c ≡ change
    same c is = let both : ending.Good c ≡ ending.Good change = sym is ∙ good in cc
