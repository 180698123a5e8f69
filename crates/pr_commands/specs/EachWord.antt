-- Agrees with docs/FORMATS.md, 'Replaying'.
-- What the words behind a command's text are, one after another.
use Rattle.std.specs.Prelude.{ℕ, List, [], ◌∷◌, Option, Some, option_map, option_and_then}

-- what each of them is, if each is something
abbrev pub each_of : {X : Type 0} → (List ℕ → Option X) → List (List ℕ) → Option (List X)
each_of word_of [] = Some []
each_of word_of (word ∷ words) = option_and_then (λ x. option_map (λ xs. x ∷ xs) (each_of word_of words)) (word_of word)
