-- The first line at which something is lacking, by what is there and what is lacking at each.
use Rattle.std.specs.Prelude.{ℕ, ◌<◌, min, List, Option, Some, None}
use Rattle.std.specs.List.{All, Any}

-- the first line at which something is lacking, while nothing is at those before it; or none
abbrev pub IsLeast : (ℕ → Type 0) → (ℕ → Type 0) → Option ℕ → Type 0
IsLeast Has Lacks None = (line : ℕ) → Has line
IsLeast Has Lacks (Some line) = Lacks line × ((earlier : ℕ) → earlier < line → Has earlier)

-- so it is among these, which have or lack something each
abbrev pub IsLeastAmong : {X : Type 0} → List X → (X → ℕ → Type 0) → (X → ℕ → Type 0) → Option ℕ → Type 0
IsLeastAmong xs Has Lacks = IsLeast (λ line. All (λ e. Has e line) xs) (λ line. Any (λ e. Lacks e line) xs)

-- the smaller of two lines, where they are there
abbrev pub least : Option ℕ → Option ℕ → Option ℕ
least None other = other
least (Some line) None = Some line
least (Some line) (Some other) = Some (min line other)
