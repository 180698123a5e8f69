-- Agrees with docs/VIEWS.md, 'What becomes of a view'.
-- What a change makes of sets of registrations.
use Rattle.std.specs.Prelude.{◌≡◌, ℕ, Bool, true, ◌==◌, if◌then◌else◌, unwrap_or}
use Rattle.pr_sets.specs.declared.bit_set.BitSet.{BitSet}
use Rattle.pr_sets.specs.BitSets.{has}
use Rattle.pr_regions.specs.declared.region.Transition.{Transition}

-- these numbers are what the others become
pub record IsImage (from : ℕ → Bool) (becomes : ℕ → ℕ) (to : ℕ → Bool) : Type 0 where
  pub all : (n : ℕ) → from n ≡ true → to (becomes n) ≡ true
  pub only : (m : ℕ) → to m ≡ true → (n : ℕ) × (from n ≡ true) × (m ≡ becomes n)

-- the registration of another once those are removed
abbrev pub registration_left : BitSet → ℕ → ℕ
registration_left removed r = if has removed r then 0 else r

-- what becomes of g's registration by a change of this sender
abbrev pub becomes : ℕ → Transition → ℕ → ℕ → ℕ
becomes sender c g r = if g == sender then unwrap_or c.sender r else registration_left c.removed r
