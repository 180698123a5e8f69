-- Elements of lists, and of lists that are mapped.
use Rattle.pr_verify.proofs.Common.{◌≡◌, ℕ, zero, suc, ◌<◌, List, [], ◌∷◌, map, length, slice_get, slice_index_or, Some, Contains, sym, refl, ap, ◌∙◌, subst, arith, length-map, get_or-map, slice_get-get_or}

pub element : {X : Type 0} (xs : List X) (k : ℕ) → k < length xs → (x : X) × (slice_index_or xs k x ≡ x)
element [] k small = absurd (omega arith)
element (x ∷ xs) zero small = (x, refl)
element (x ∷ xs) (suc k) small = element xs k (omega arith)

pub read_there : {X : Type 0} (xs : List X) (k : ℕ) (x : X) → k < length xs → x ≡ slice_index_or xs k x → Contains xs x
read_there xs k x small read = (k, small, sym read)

pub mapped : {X Y : Type 0} (f : X → Y) (xs : List X) (x : X) → Contains xs x → Contains (map f xs) (f x)
mapped f xs x there = (there.0, subst (λ n. there.0 < n) (sym (length-map xs f)) there.1, get_or-map f xs there.0 x (f x) there.1 ∙ ap f there.2)

pub unmapped : {X Y : Type 0} (f : X → Y) (xs : List X) (y : Y) → Contains (map f xs) y → (x : X) × Contains xs x × (f x ≡ y)
unmapped f xs y there =
    let small : there.0 < length xs = subst (λ n. there.0 < n) (length-map xs f) there.1 in
    let one = element xs there.0 small in
    (one.0, (there.0, small, one.1), ap f (sym one.1) ∙ sym (get_or-map f xs there.0 one.0 y small) ∙ there.2)

pub contains_get : {X : Type 0} (xs : List X) (x : X) → Contains xs x → (k : ℕ) × (slice_get xs k ≡ Some x)
contains_get xs x there = (there.0, slice_get-get_or xs there.0 x there.1 ∙ ap (λ y. Some y) there.2)
