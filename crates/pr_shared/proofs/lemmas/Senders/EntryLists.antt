-- A list compared, entry by entry, with what a function finds in the items of a history.
use Rattle.std.proofs.Common.{◌≡◌, ℕ, suc, ◌+◌, ◌<◌, ◌≤◌, List, [], ◌∷◌, ◌++◌, length, take, drop, get_or, Option, Some, sym, ap, ◌∙◌, arith, length-append}
use Rattle.std.specs.List.{filter_map, cons_option}
use Rattle.std.proofs.Math.Seq.{drop-cons}
use Rattle.std.proofs.lemmas.List.{get_or_at, length-take-le, take-append-drop, take_all, take_more}
use Rattle.std.proofs.lemmas.List.Elements.{filter_map-append}

-- ---- one item more of the history

pub found_more : {X Y : Type 0} (f : X → Option Y) (xs : List X) (i : ℕ) (x : X) (o : Option Y) → i < length xs → x ≡ get_or xs i x → f x ≡ o
    → filter_map f (take (i + 1) xs) ≡ filter_map f (take i xs) ++ cons_option o []
found_more f xs i x o there at is =
    ap (filter_map f) (take_more xs i x there ∙ ap (λ y. take i xs ++ y ∷ []) (sym at))
    ∙ (filter_map-append f (take i xs) (x ∷ []) ∙ ap (λ p. filter_map f (take i xs) ++ cons_option p []) is)

-- ---- where the list is another

-- what is found is what was found before, what is found here, and what is found after it
found_split : {X Y : Type 0} (f : X → Option Y) (xs : List X) (i : ℕ) (x : X) (e : Y) → i < length xs → x ≡ get_or xs i x → f x ≡ Some e
    → filter_map f xs ≡ filter_map f (take i xs) ++ e ∷ filter_map f (drop (suc i) xs)
found_split f xs i x e there at is =
    let rest : drop i xs ≡ x ∷ drop (suc i) xs = drop-cons xs i x there ∙ ap (λ y. y ∷ drop (suc i) xs) (sym at) in
    ap (filter_map f) (sym (take-append-drop i xs) ∙ ap (λ ys. take i xs ++ ys) rest)
    ∙ (filter_map-append f (take i xs) (x ∷ drop (suc i) xs) ∙ ap (λ o. filter_map f (take i xs) ++ cons_option o (filter_map f (drop (suc i) xs))) is)

-- it has no next
pub too_few : {X Y : Type 0} (f : X → Option Y) (xs : List X) (mine : List Y) (i n : ℕ) (x : X) (e : Y) → i < length xs → x ≡ get_or xs i x → f x ≡ Some e → length mine ≤ n
    → filter_map f (take i xs) ≡ take n mine → filter_map f xs ≡ mine → ⊥
too_few f xs mine i n x e there at is past before all =
    let rest = filter_map f (drop (suc i) xs) in
    let split : mine ≡ mine ++ e ∷ rest = sym all ∙ (found_split f xs i x e there at is ∙ ap (λ ys. ys ++ e ∷ rest) (before ∙ take_all n mine past)) in
    let long : length mine ≡ length mine + length (e ∷ rest) = ap length split ∙ length-append mine (e ∷ rest) in
    omega (arith, long)

-- its next is another
pub another_next : {X Y : Type 0} (f : X → Option Y) (xs : List X) (mine : List Y) (i n : ℕ) (x : X) (e y : Y) → i < length xs → x ≡ get_or xs i x → f x ≡ Some e → n < length mine → y ≡ get_or mine n y
    → filter_map f (take i xs) ≡ take n mine → filter_map f xs ≡ mine → e ≡ y
another_next f xs mine i n x e y there at is within next before all =
    let rest = filter_map f (drop (suc i) xs) in
    let split : mine ≡ take n mine ++ e ∷ rest = sym all ∙ (found_split f xs i x e there at is ∙ ap (λ ys. ys ++ e ∷ rest) before) in
    sym (next ∙ (ap (λ ys. get_or ys n y) split ∙ get_or_at (take n mine) e rest y n (length-take-le n mine (omega arith))))
