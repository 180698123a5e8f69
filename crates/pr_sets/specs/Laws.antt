-- Agrees with docs/VIEWS.md, 'What a view has'.
-- What the sets of numbers are to one another: inclusion orders them, and a join is the least set that has both.
use Rattle.std.specs.Prelude.{◌≡◌, ◌↔◌, ◌⊎◌, ℕ, false}
use Rattle.std.specs.FinSet as set
use Rattle.pr_sets.specs.Numbers.{Numbers, Has, Within}

pub record InclusionIsAnOrder : Type 0 where
  pub reflexive : (a : Numbers) → Within a a
  pub transitive : (a b c : Numbers) → Within a b → Within b c → Within a c
  pub antisymmetric : (a b : Numbers) → Within a b → Within b a → a ≡ b

pub record UnionIsTheLeastAbove : Type 0 where
  pub left : (a b : Numbers) → Within a (set.union a b)
  pub right : (a b : Numbers) → Within b (set.union a b)
  pub least : (a b c : Numbers) → Within a c → Within b c → Within (set.union a b) c

-- a union with what is there already is the set as it was, and one that is so had the other's members
abbrev pub UnionKeepsWhatHasIt : Type 0
UnionKeepsWhatHasIt = (a b : Numbers) → (set.union a b ≡ a) ↔ Within b a

-- the empty set is within each, and no other set has no member
pub record EmptyIsTheLeast : Type 0 where
  pub within : (a : Numbers) → Within set.empty a
  pub alone : (a : Numbers) → (a ≡ set.empty) ↔ ((n : ℕ) → set.contains a n ≡ false)

-- the members after an insert: the new one, and those from before
abbrev pub InsertAddsOne : Type 0
InsertAddsOne = (a : Numbers) (n m : ℕ) → Has (set.insert a n) m ↔ ((m ≡ n) ⊎ Has a m)
