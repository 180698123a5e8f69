-- Agrees with docs/FORMATS.md, 'The lines of a scenario'.
-- Tables of words.
use Rattle.std.specs.Prelude.{ℕ, if◌then◌else◌, List, [], ◌∷◌, bytes_eq, Option, Some, None}

-- what the table has for the word
abbrev pub lookup : {X : Type 0} → List (List ℕ × X) → List ℕ → Option X
lookup [] word = None
lookup (row ∷ rows) word = if bytes_eq word row.0 then Some row.1 else lookup rows word
