-- Agrees with docs/VIEWS.md, 'What a view has'.
-- The states of a view that are looked at one part after another, and what each nexus has in such a part.
use Rattle.std.specs.Prelude.{◌≡◌, ℕ, ◌<◌, ◌≤◌, true, false, List}
use Rattle.pr_unit.specs.UnitStates.{UnitState}
use Rattle.pr_sets.specs.declared.bit_set.BitSet.{BitSet}
use Rattle.pr_sets.specs.BitSets.{has}
use Rattle.pr_sets.specs.Wides.{has_wide}
use Rattle.pr_views.specs.declared.possibilities.Possibilities.{Possibilities}
use Rattle.pr_views.specs.Possibilities.{Scope, Registration, Reservation, Attentions, IsSo}
use Rattle.pr_views.specs.Views.{View, Shows, Fits}
use Rattle.pr_views.specs.Portions.{has_at, view_in}
use Rattle.pr_regions.specs.declared.region.Region.{Region}
use Rattle.pr_regions.specs.Regions.{IsInRegion, IsUntestedOrRegistered}
use Rattle.pr_regions.specs.declared.place.Place.{Place}

-- the place is one of this view: its reservation is possible
pub record IsPlace (s : Scope) (view : Possibilities) (place : Place) : Type 0 where
  pub hosts : s.hosts ≡ place.hosts
  pub fits : Fits (view_in s view)
  pub possible : has_wide view.reservations place.reservation ≡ true

-- a sender that may be unregistered here is nothing else
abbrev pub IsUniform : BitSet → Type 0
IsUniform senders = has senders 0 ≡ true → (r : ℕ) → has senders r ≡ true → r ≡ 0

-- the region's test, if there is one, is passed by registered nexuses alone
abbrev pub IsProper : Region → Type 0
IsProper region = IsUntestedOrRegistered region.somebody

-- a shown state with the reservation of this place, in which the sender has one of these registrations and the
-- others are as the region says
pub record IsAt (v : View) (place : Place) (senders : BitSet) (region : Region) (u : UnitState) : Type 0 where
  pub shown : Shows v u
  pub reservation : IsSo v.scope u (Reservation place.reservation)
  pub sender : (r : ℕ) → IsSo v.scope u (Registration place.sender r) → has senders r ≡ true
  pub inside : IsInRegion v.scope place.sender region u

-- in such a state g has this registration, and the owner these attentions
pub record IsMet (v : View) (place : Place) (senders : BitSet) (region : Region) (g r q : ℕ) : Type 0 where
  pub unit : UnitState
  pub at : IsAt v place senders region unit
  pub is : IsSo v.scope unit (Registration g r)
  pub pending : IsSo v.scope unit (Attentions q)

-- there is such a state in which these attentions are pending for the owner
pub record IsThere (v : View) (place : Place) (senders : BitSet) (region : Region) (q : ℕ) : Type 0 where
  pub unit : UnitState
  pub at : IsAt v place senders region unit
  pub pending : IsSo v.scope unit (Attentions q)

-- What each has in those states: just these registrations, each beside any attentions of the owner.
pub record IsGathered (v : View) (place : Place) (senders : BitSet) (region : Region) (words : List BitSet) : Type 0 where
  pub all : (u : UnitState) (g r : ℕ) → IsAt v place senders region u → IsSo v.scope u (Registration g r) → has_at words g r ≡ true
  pub only : (g r q : ℕ) → g < v.scope.hosts → has_at words g r ≡ true → v.pending q ≡ true → IsMet v place senders region g r q
  pub some : (q : ℕ) → v.pending q ≡ true → IsThere v place senders region q

-- ---- whoever's the view is

-- the words are what each nexus has in those states
abbrev pub IsGatheredIn : Possibilities → Place → BitSet → Region → List BitSet → Type 0
IsGatheredIn view place senders region words =
    (s : Scope) → IsPlace s view place → IsUniform senders → IsProper region → IsGathered (view_in s view) place senders region words

-- there is no such state
abbrev pub HasNone : Possibilities → Place → BitSet → Region → Type 0
HasNone view place senders region =
    (s : Scope) → IsPlace s view place → IsUniform senders → IsProper region → (u : UnitState) → IsAt (view_in s view) place senders region u → ⊥

-- the words have whatever is so in those states
abbrev pub HasAll : Possibilities → Place → BitSet → Region → List BitSet → Type 0
HasAll view place senders region words =
    (s : Scope) → IsPlace s view place → IsUniform senders → (u : UnitState) → IsAt (view_in s view) place senders region u
    → (g r : ℕ) → IsSo s u (Registration g r) → has_at words g r ≡ true

-- past the nexuses that are there the words have nothing
abbrev pub HasNoneBeyond : ℕ → List BitSet → Type 0
HasNoneBeyond hosts words = (g r : ℕ) → hosts ≤ g → has_at words g r ≡ false
