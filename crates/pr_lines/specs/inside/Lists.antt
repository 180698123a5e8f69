-- Lists as loops make them, behind what they have so far.
use Rattle.std.specs.Prelude.{List, [], ◌∷◌, ◌++◌, Option, Some}
use Rattle.pr_script.specs.Chain.{◌>>=◌}

abbrev pub each_onto : {A B : Type 0} → (A → Option B) → List B → List A → Option (List B)
each_onto f ys [] = Some ys
each_onto f ys (x ∷ xs) = f x >>= λ y. each_onto f (ys ++ y ∷ []) xs
