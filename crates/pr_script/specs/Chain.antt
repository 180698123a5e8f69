-- Agrees with docs/FORMATS.md, 'Faults'.
-- Steps of which each may fail.
use Rattle.std.specs.Prelude.{Option, option_and_then}

-- the second step, on what the first gave
infixl 10 ◌>>=◌
abbrev pub ◌>>=◌ : {A B : Type 0} → Option A → (A → Option B) → Option B
o >>= f = option_and_then f o
