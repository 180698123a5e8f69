-- Which paths are shared.
use Rattle.pr_roles.proofs.Common.{◌≡◌, ℕ, ◌+◌, ◌<◌, Bool, true, false, ◌⊎◌, inl, inr, List, map, length, ◌==◌, ap, ◌∙◌, arith, length-map}
use Rattle.std.specs.Prelude.{◌≢◌, slice_set}
use Rattle.std.proofs.lemmas.Bool.Decides.{eqb_tells}
use Rattle.std.proofs.lemmas.List.{get_or-set_same, get_or-set_other, map-set}
use Rattle.pr_roles.specs.declared.parts.Nexus.{Nexus as NexusPart}
use Rattle.pr_roles.specs.Scenarios.{is_shared_by}

-- the paths of these
abbrev pub paths : List NexusPart → List Bool
paths ns = map (λ n. n.shared) ns

-- one path more
pub shared_more : (ns : List NexusPart) (i : ℕ) (n : NexusPart) → n.shared ≡ true → i < length ns → ((h : ℕ) → h < i → is_shared_by (paths ns) h ≡ true)
    → (h : ℕ) → h < i + 1 → is_shared_by (paths (slice_set ns i n)) h ≡ true
shared_more ns i n shares there before h below = ap (λ xs. is_shared_by xs h) (map-set (λ m. m.shared) ns i n) ∙ at (eqb_tells h i)
  where
    at : (((h == i) ≡ true) × (h ≡ i)) ⊎ (((h == i) ≡ false) × (h ≢ i)) → is_shared_by (slice_set (paths ns) i n.shared) h ≡ true
    at (inl same) = ap (is_shared_by (slice_set (paths ns) i n.shared)) same.1 ∙ get_or-set_same (paths ns) i n.shared false (omega (arith, there, length-map ns (λ m. m.shared))) ∙ shares
    at (inr other) = get_or-set_other (paths ns) i h n.shared false other.1 ∙ before h (omega (arith, below, other.1))
