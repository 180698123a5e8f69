-- Agrees with docs/VIEWS.md, 'What a view has'.
-- A set of numbers below 16 as the bits of a word.
use Rattle.std.specs.Prelude.{◌≡◌, ℕ, ◌≤◌, Bool, true, ◌==◌}
use Rattle.std.specs.Int.{bit_at}
use Rattle.pr_sets.specs.declared.bit_set.BitSet.{BitSet}

-- how many numbers there can be in a bit set: from 0 up to this bound
abbrev pub bit_set_size : ℕ
bit_set_size = 16

-- n is in the set
abbrev pub has : BitSet → ℕ → Bool
has w n = bit_at w.bits n == 1

-- n is the least number in the set
pub record IsLeast (w : BitSet) (n : ℕ) : Type 0 where
  pub there : has w n ≡ true
  pub least : (m : ℕ) → has w m ≡ true → n ≤ m
