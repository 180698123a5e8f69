-- Who can pass the test of a portion.
use Rattle.std.specs.Prelude.{◌≡◌, ◌≢◌, ℕ, ◌<◌, ◌≤◌, true, false, List}
use Rattle.pr_sets.specs.declared.bit_set.BitSet.{BitSet}
use Rattle.pr_sets.specs.BitSets.{has}
use Rattle.pr_views.specs.declared.portion.Portion.{Portion}
use Rattle.pr_views.specs.Portions.{has_at}

-- some nexus that is there has no registration left
pub record LacksOne (hosts : ℕ) (words : List BitSet) : Type 0 where
  pub host : ℕ
  pub there : host < hosts
  pub none : (r : ℕ) → has_at words host r ≡ false

-- g is not the sender, and one of the registrations left to it passes
pub record CanPass (p : Portion) (test : BitSet) (g : ℕ) : Type 0 where
  pub other : g ≢ p.sender
  pub registration : ℕ
  pub left : has_at p.registrations g registration ≡ true
  pub passes : has test registration ≡ true

-- g is the sender, or none of the registrations left to it passes
abbrev pub CannotPass : Portion → BitSet → ℕ → Type 0
CannotPass p test g = g ≢ p.sender → (r : ℕ) → has_at p.registrations g r ≡ true → has test r ≡ false

-- nobody from the one number up to the other can
abbrev pub NonePasses : Portion → BitSet → ℕ → ℕ → Type 0
NonePasses p test from to = (g : ℕ) → from ≤ g → g < to → CannotPass p test g

-- the first from the number on that can
pub record IsFirstPassing (p : Portion) (test : BitSet) (from hosts g : ℕ) : Type 0 where
  pub late : from ≤ g
  pub there : g < hosts
  pub passes : CanPass p test g
  pub first : NonePasses p test from g
