-- Agrees with docs/MODEL.md, 'Worlds, events and runs'.
-- Answers to a host on whose path somebody else may have been told of what was pending for it.
use Rattle.std.specs.Prelude.{◌≡◌, ℕ, ◌==◌, not, Bool, true, false, Result, Ok, Err}
use Rattle.std.specs.FinSet as set
use Rattle.pr_cdb.specs.declared.wire.Request.{Request}
use Rattle.pr_cdb.specs.declared.wire.Bad.{Bad}
use Rattle.pr_unit.specs.UnitStates.{UnitState, is_pending}
use Rattle.pr_unit.specs.Laws.{IsQuiet}

-- the state once nothing is pending for h
abbrev pub silenced : UnitState → ℕ → UnitState
silenced u h = record u { pending = set.retain u.pending (λ p. not (p.0 == h)) }

-- what is answered from one state, and leads to another
abbrev pub Answering : Type 1
Answering = UnitState → UnitState → Type 0

-- it is answered from a state in which nothing is pending for h that is not in u
pub record IsFromLess (answers : Answering) (u : UnitState) (h : ℕ) (v : UnitState) : Type 0 where
  pub from : UnitState
  pub less : IsQuiet u h from
  pub answer : answers from v

-- and in no state to which that leads is more pending for h
pub record LeavesMost (answers : Answering) (u : UnitState) (h : ℕ) (v : UnitState) : Type 0 where
  pub is : IsFromLess answers u h v
  pub most : (w : UnitState) → IsFromLess answers u h w → IsQuiet v h w

-- True: the unit may answer so once some of what is pending for h is gone, and this is the state after it in which most is left.
-- False: it may not, whatever is gone, and nothing changes.
abbrev pub IsFollowedShared : Answering → UnitState → ℕ → Bool → UnitState → Type 0
IsFollowedShared answers u h true v = LeavesMost answers u h v
IsFollowedShared answers u h false v = (v ≡ u) × ((after : UnitState) → IsFromLess answers u h after → ⊥)

-- the same of the bytes of a command: bytes that are no request have no reply
abbrev pub FollowsShared : (Request → Answering) → UnitState → ℕ → Result Request Bad → Bool → UnitState → Type 0
FollowsShared answers u h (Ok q) follows v = IsFollowedShared (answers q) u h follows v
FollowsShared answers u h (Err bad) true v = ⊥
FollowsShared answers u h (Err bad) false v = v ≡ u

-- Whether something is pending for a host in one state, and in another in which no more is: on a shared path it may be gone.
abbrev pub NoMore : Bool → Bool → Bool → Type 0
NoMore true now before = now ≡ true → before ≡ true
NoMore false now before = now ≡ before

-- the same registry, and for hosts whose paths are shared no more is pending than in u
pub record IsBelow (shared : ℕ → Bool) (u v : UnitState) : Type 0 where
  pub registry : v.registry ≡ u.registry
  pub pending : (h code : ℕ) → NoMore (shared h) (is_pending v h code) (is_pending u h code)
