-- Agrees with docs/VIEWS.md, 'What a view has'.
-- Declared keys by their numbers.
use Rattle.std.specs.Prelude.{ℕ, zero, suc, List, Option, None}
use Rattle.std.specs.List.{slice_get}

-- number 0 is no key, number i is the i-th declared key
abbrev pub key_at : List ℕ → ℕ → Option ℕ
key_at keys zero = None
key_at keys (suc i) = slice_get keys i
