-- Agrees with docs/VIEWS.md, 'What a view has'.
-- The sets of numbers that a word and a list stand for.
use Rattle.std.specs.Prelude.{ℕ, zero, suc, Bool, ◌==◌, if◌then◌else◌, List}
use Rattle.std.specs.Int.{bit_at}
use Rattle.std.specs.FinSet as set
use Rattle.pr_sets.specs.Numbers.{Numbers, most}

-- the numbers below n that pass the test
unfoldable pub numbers_where : ℕ → (ℕ → Bool) → Numbers
numbers_where zero test = set.empty
numbers_where (suc n) test = if test n then set.insert (numbers_where n test) n else numbers_where n test

-- the numbers whose bits are set
abbrev pub numbers_of_bits : ℕ → Numbers
numbers_of_bits bits = numbers_where most (λ n. bit_at bits n == 1)

-- the numbers in a list
abbrev pub numbers_in : List ℕ → Numbers
numbers_in list = set.from_list list
