-- Agrees with docs/VIEWS.md, 'What becomes of a view'.
-- What a change does, told by the registrations that it removes and tells.
use Rattle.std.specs.Prelude.{◌≡◌, ℕ, ◌≤◌, Bool, false, Option}
use Rattle.pr_roles.specs.declared.limits.TheConstants.{MOST_KEYS}
use Rattle.pr_sets.specs.declared.bit_set.BitSet.{BitSet}
use Rattle.pr_sets.specs.BitSets.{has}
use Rattle.pr_regions.specs.declared.region.Transition.{Transition}

-- of the registrations that there can be, the word has those that pass
abbrev pub HasThose : BitSet → (ℕ → Bool) → Type 0
HasThose w passes = (r : ℕ) → r ≤ MOST_KEYS → has w r ≡ passes r

-- none of them
abbrev pub never : ℕ → Bool
never r = false

-- Which registrations are told that reservations were preempted (03h), that they were released (04h), and that
-- registrations were preempted (05h).
pub record Audience : Type 0 where
  pub told_03 : ℕ → Bool
  pub told_04 : ℕ → Bool
  pub told_05 : ℕ → Bool

abbrev pub audience : (ℕ → Bool) → (ℕ → Bool) → (ℕ → Bool) → Audience
audience preempted released removed = record { told_03 = preempted; told_04 = released; told_05 = removed }

abbrev pub tells_nobody : Audience
tells_nobody = audience never never never

-- these three words have those who are told
pub record HaveAudience (w_03 w_04 w_05 : BitSet) (tells : Audience) : Type 0 where
  pub told_03 : HasThose w_03 tells.told_03
  pub told_04 : HasThose w_04 tells.told_04
  pub told_05 : HasThose w_05 tells.told_05

-- the change gives the sender this registration, where it gives one, removes and tells these others, and leaves
-- this reservation
pub record Does (c : Transition) (to : Option ℕ) (out : ℕ → Bool) (left : ℕ) (tells : Audience) : Type 0 where
  pub sender : c.sender ≡ to
  pub removed : HasThose c.removed out
  pub reservation : c.reservation ≡ left
  pub told : HaveAudience c.told_03 c.told_04 c.told_05 tells
