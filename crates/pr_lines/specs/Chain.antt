-- Agrees with docs/FORMATS.md, 'Faults'.
-- Steps of which each may fail, one for each of several.
use Rattle.std.specs.Prelude.{List, [], ◌∷◌, Option, Some, option_map}
use Rattle.pr_script.specs.Chain.{◌>>=◌}

-- what each of these is, where each is something
abbrev pub each : {A B : Type 0} → (A → Option B) → List A → Option (List B)
each f [] = Some []
each f (x ∷ xs) = f x >>= λ y. option_map (λ ys. y ∷ ys) (each f xs)
