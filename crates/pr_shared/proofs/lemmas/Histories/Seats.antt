-- Two lists, each with one element more.
use Rattle.std.proofs.Common.{◌≡◌, List, [], ◌∷◌, ◌++◌}
use Rattle.std.specs.Prelude.{map}
use Rattle.std.proofs.lemmas.List.{map_push}

-- what is said of the elements of one is the other
pub both_more : {X Z : Type 0} (xs ys : List X) (x : X) (f : X → Z) (zs ws : List Z) (z : Z) → ys ≡ xs ++ x ∷ [] → f x ≡ z → ws ≡ zs ++ z ∷ [] → map f xs ≡ zs → map f ys ≡ ws
both_more xs ys x f zs ws z pushed is more before = let last = map_push f xs x in cc
