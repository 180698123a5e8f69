-- What of a view's possibilities is so in some state that it shows, one place after another.
use Rattle.std.specs.Prelude.{◌≡◌, ℕ, ◌<◌, true}
use Rattle.pr_unit.specs.UnitStates.{UnitState}
use Rattle.pr_sets.specs.declared.bit_set.BitSet.{BitSet}
use Rattle.pr_sets.specs.BitSets.{has}
use Rattle.pr_views.specs.declared.possibilities.Possibilities.{Possibilities}
use Rattle.pr_views.specs.Portions.{view_in}
use Rattle.pr_views.specs.Possibilities.{Scope, Item, Registration, Reservation, IsSo}
use Rattle.pr_views.specs.Views.{View, IsPossible, Shows}
use Rattle.pr_regions.specs.declared.place.Place.{Place}
use Rattle.pr_regions.specs.Keeping.{IsShownSo}
use Rattle.pr_regions.specs.Gathering.{IsPlace, IsUniform}
use Rattle.pr_regions.specs.inside.Adding.{Adds, Allows}

-- a shown state with the reservation of this place, in which the sender has one of these registrations
pub record IsShownAt (v : View) (place : Place) (senders : BitSet) (u : UnitState) : Type 0 where
  pub shown : Shows v u
  pub reservation : IsSo v.scope u (Reservation place.reservation)
  pub sender : (r : ℕ) → IsSo v.scope u (Registration place.sender r) → has senders r ≡ true

-- the possibilities are what is so in those states
pub record IsShown (s : Scope) (view : Possibilities) (place : Place) (senders : BitSet) (shown : Possibilities) : Type 0 where
  pub all : (u : UnitState) → IsShownAt (view_in s view) place senders u → Allows s shown u
  pub only : (i : Item) → IsPossible (view_in s shown) i → IsShownSo (view_in s view) i

-- ---- whoever's the view is

abbrev pub IsShownOf : Possibilities → Place → BitSet → Possibilities → Type 0
IsShownOf view place senders shown = (s : Scope) → IsPlace s view place → IsUniform senders → IsShown s view place senders shown

-- there is no such state
abbrev pub ShowsNone : Possibilities → Place → BitSet → Type 0
ShowsNone view place senders = (s : Scope) → IsPlace s view place → IsUniform senders → (u : UnitState) → IsShownAt (view_in s view) place senders u → ⊥

-- what is so in those states is added, and nothing that is so in no shown state
abbrev pub AddsShown : Possibilities → Place → BitSet → Possibilities → Possibilities → Type 0
AddsShown view place senders old new =
    (s : Scope) → IsPlace s view place → IsUniform senders → Adds s old new (λ _ u. IsShownAt (view_in s view) place senders u) (IsShownSo (view_in s view))

-- ---- one reservation after another

-- a shown state with one of the first reservations
pub record IsShownBelow (n : ℕ) (v : View) (u : UnitState) : Type 0 where
  pub shown : Shows v u
  pub reservation : ℕ
  pub below : reservation < n
  pub is : IsSo v.scope u (Reservation reservation)
