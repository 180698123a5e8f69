-- What lists of words have at a place.
use Rattle.pr_views.proofs.Common.{◌≡◌, ℕ, zero, suc, ◌+◌, ◌<◌, ◌≤◌, Bool, false, ◌≢◌, List, ◌∷◌, length, slice_index_or, slice_set, Some, Option, sym, refl, ap, ◌∙◌, subst, arith, length-set, slice_get, option_map_or}
use Rattle.std.proofs.Common.{below_more}
use Rattle.std.proofs.lemmas.List.{get_or-set_same}
use Rattle.std.proofs.lemmas.Option.{slice_get-get_or, slice_get_past}

-- what a test says at a place, and no past the end
abbrev pub holds_at : {X : Type 0} → (X → Bool) → List X → ℕ → Bool
holds_at p xs i = option_map_or p (slice_get xs i) false

pub holds_at-get_or : {X : Type 0} (p : X → Bool) (xs : List X) (i : ℕ) (d : X) → i < length xs → holds_at p xs i ≡ p (slice_index_or xs i d)
holds_at-get_or p xs i d there = ap (λ o. option_map_or p o false) (slice_get-get_or xs i d there)

pub holds_at_past : {X : Type 0} (p : X → Bool) (xs : List X) (i : ℕ) → length xs ≤ i → holds_at p xs i ≡ false
holds_at_past p xs i past = ap (λ o. option_map_or p o false) (slice_get_past xs i past)

-- ---- after a write

get_same : {X : Type 0} (xs : List X) (i : ℕ) (y : X) → i < length xs → slice_get (slice_set xs i y) i ≡ Some y
get_same {X} xs i y there = slice_get-get_or (slice_set xs i y) i y (omega (arith, length-set {A = X})) ∙ ap Some (get_or-set_same xs i y y there)

pub get_other : {X : Type 0} (xs : List X) (i g : ℕ) (y : X) → g ≢ i → slice_get (slice_set xs i y) g ≡ slice_get xs g
get_other (x ∷ xs) zero zero y differs = absurd (differs refl)
get_other (x ∷ xs) (suc i) (suc g) y differs = get_other xs i g y (λ e. differs (ap suc e))
get_other _ _ _ y differs = refl

pub holds_at_written : {X : Type 0} (p : X → Bool) (xs : List X) (i : ℕ) (y : X) → i < length xs → holds_at p (slice_set xs i y) i ≡ p y
holds_at_written p xs i y there = ap (λ o. option_map_or p o false) (get_same xs i y there)

pub holds_at_kept : {X : Type 0} (p : X → Bool) (xs : List X) (i g : ℕ) (y : X) → g ≢ i → holds_at p (slice_set xs i y) g ≡ holds_at p xs g
holds_at_kept p xs i g y differs = ap (λ o. option_map_or p o false) (get_other xs i g y differs)

-- ---- what is so of the first places, and of one more

-- of one that was written
pub more_set : {X : Type 0} (P : ℕ → Option X → Type 0) (xs : List X) (i j : ℕ) (y : X) → j ≡ i → j < length xs → ((g : ℕ) → g < i → P g (slice_get xs g)) → P j (Some y)
    → (g : ℕ) → g < i + 1 → P g (slice_get (slice_set xs j y) g)
more_set P xs i j y same there before here =
    below_more (λ g. P g (slice_get (slice_set xs j y) g)) i (λ g small. subst (P g) (sym (get_other xs j g y (λ e. absurd (omega arith)))) (before g small))
    (subst (λ g. P g (slice_get (slice_set xs j y) g)) same (subst (P j) (sym (get_same xs j y there)) here))

-- of one that was read
pub more_read : {X : Type 0} (P : ℕ → Option X → Type 0) (xs : List X) (i j : ℕ) (d : X) → j ≡ i → j < length xs → ((g : ℕ) → g < i → P g (slice_get xs g)) → P j (Some (slice_index_or xs j d))
    → (g : ℕ) → g < i + 1 → P g (slice_get xs g)
more_read P xs i j d same there before here =
    below_more (λ g. P g (slice_get xs g)) i before (subst (λ g. P g (slice_get xs g)) same (subst (P j) (sym (slice_get-get_or xs j d there)) here))
