-- Agrees with docs/VIEWS.md, 'What a view has'.
-- Finite sets of small numbers.
use Rattle.std.specs.Prelude.{◌≡◌, ℕ, ◌<◌, ◌≤◌, true, false}
use Rattle.std.specs.Ordering.{nat_cmp}
use Rattle.std.specs.FinSet as set

abbrev pub Numbers : Type 0
Numbers = set.FinSet nat_cmp

-- how many numbers there can be in a set: from 0 up to this bound
abbrev pub most : ℕ
most = 128

-- n is a member
abbrev pub Has : Numbers → ℕ → Type 0
Has numbers n = set.contains numbers n ≡ true

-- each member is below the bound
abbrev pub AllBelow : ℕ → Numbers → Type 0
AllBelow bound numbers = (n : ℕ) → Has numbers n → n < bound

-- each member is one of the others
abbrev pub Within : Numbers → Numbers → Type 0
Within numbers others = (n : ℕ) → Has numbers n → Has others n

-- of the members from this number on, n is the least
pub record IsNext (numbers : Numbers) (from : ℕ) (n : ℕ) : Type 0 where
  pub late : from ≤ n
  pub there : Has numbers n
  pub least : (m : ℕ) → from ≤ m → Has numbers m → n ≤ m

-- from this number on there is no member
abbrev pub HasNoneFrom : Numbers → ℕ → Type 0
HasNoneFrom numbers from = (m : ℕ) → from ≤ m → set.contains numbers m ≡ false
