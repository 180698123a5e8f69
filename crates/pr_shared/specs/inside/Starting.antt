-- Which threads were started.
use Rattle.std.specs.Prelude.{◌≡◌, ℕ, List, ◌∷◌, ◌++◌, Option, Some, None}

-- all of them, or those before one that could not be started
abbrev pub StartedBut : Option ℕ → List ℕ → List ℕ → Type 0
StartedBut None started all = started ≡ all
StartedBut (Some host) started all = (others : List ℕ) × (started ++ host ∷ others ≡ all)
