-- Agrees with docs/VIEWS.md, 'What a view has'.
-- A set of numbers below 128 as the bits of a wide word.
use Rattle.std.specs.Prelude.{ℕ, Bool, ◌==◌}
use Rattle.std.specs.Int.{bit_at}
use Rattle.pr_sets.specs.declared.wide.Wide.{Wide}

-- n is in the set
abbrev pub has_wide : Wide → ℕ → Bool
has_wide w n = bit_at w.bits n == 1
