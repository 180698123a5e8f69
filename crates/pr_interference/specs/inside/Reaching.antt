-- What a command of a clause can leave at most, beside what was so before it.
use Rattle.std.specs.Prelude.{◌≡◌, ◌≢◌, ◌⊎◌, ◌||◌, ℕ, ◌<◌, ◌≤◌, true, Option, Some, None, bit_or}
use Rattle.pr_cdb.specs.declared.command.Kind.{Kind}
use Rattle.pr_cdb.specs.declared.command.Kind.TheVariants.{WriteExclusive, ExclusiveAccess, WriteExclusiveRegistrantsOnly, ExclusiveAccessRegistrantsOnly, WriteExclusiveAllRegistrants, ExclusiveAccessAllRegistrants}
use Rattle.pr_registry.specs.declared.held.Held.{Held}
use Rattle.pr_registry.specs.declared.held.Held.TheVariants.{One, All}
use Rattle.pr_registry.specs.Registrations.{new_reservation}
use Rattle.pr_unit.specs.UnitStates.{UnitState}
use Rattle.pr_roles.specs.declared.role.Clause.{Clause}
use Rattle.pr_roles.specs.Fitting.{is_reservation}
use Rattle.pr_roles.specs.declared.limits.TheConstants.{MOST_KEYS}
use Rattle.pr_sets.specs.declared.wide.Wide.{Wide}
use Rattle.pr_sets.specs.declared.bit_set.BitSet.{BitSet}
use Rattle.pr_sets.specs.BitSets.{has}
use Rattle.pr_sets.specs.Wides.{has_wide}
use Rattle.pr_views.specs.declared.possibilities.Possibilities.{Possibilities}
use Rattle.pr_attention.specs.declared.flags.TheConstants.{RESERVATIONS_PREEMPTED_BIT, RESERVATIONS_RELEASED_BIT, REGISTRATIONS_PREEMPTED_BIT}
use Rattle.pr_views.specs.Possibilities.{Scope, Item, Registration, Reservation, Attentions, IsSo, number_of}
use Rattle.pr_views.specs.Views.{IsPossible, Shows}
use Rattle.pr_views.specs.Portions.{has_at, view_in}
use Rattle.pr_interference.specs.declared.onlooker.Onlooker.{Onlooker}
use Rattle.pr_interference.specs.declared.holders.Holders.{Holders}
use Rattle.pr_interference.specs.declared.reach.Reach.{Reach}
use Rattle.pr_interference.specs.inside.Interfering.{IsOnlooking}
use Rattle.pr_interference.specs.inside.Clauses.{PlaceLeads}

-- the word has the number of every key
abbrev pub HasEveryKey : BitSet → Type 0
HasEveryKey word = (r : ℕ) → 1 ≤ r → r ≤ MOST_KEYS → has word r ≡ true

-- it has that of every key but one
abbrev pub HasEveryKeyBut : ℕ → BitSet → Type 0
HasEveryKeyBut key word = (r : ℕ) → 1 ≤ r → r ≤ MOST_KEYS → r ≢ key → has word r ≡ true

-- among the reservations of so many nexuses is this one
abbrev pub HasReservation : Wide → ℕ → Held → Type 0
HasReservation reservations hosts held = has_wide reservations (number_of hosts (Some held)) ≡ true

-- among them is the one of this type that the sender establishes
abbrev pub HasNew : Wide → ℕ → Kind → ℕ → Type 0
HasNew reservations hosts kind sender = HasReservation reservations hosts (new_reservation kind sender)

-- a nexus may have this registration
abbrev pub MayHave : Possibilities → ℕ → ℕ → Type 0
MayHave view g r = has_at view.registrations g r ≡ true

-- with registration r the owner can be told, and q becomes n by it
abbrev pub IsTold : Reach → ℕ → ℕ → ℕ → Type 0
IsTold reach r q n =
    ((has reach.told_03 r ≡ true) × (n ≡ bit_or q RESERVATIONS_PREEMPTED_BIT)) ⊎
    (((has reach.told_04 r ≡ true) × (n ≡ bit_or q RESERVATIONS_RELEASED_BIT)) ⊎
    ((has reach.told_05 r ≡ true) × (n ≡ bit_or q REGISTRATIONS_PREEMPTED_BIT)))

-- whatever becomes another by the step is in reach
pub record IsWithin (s : Scope) (from : ℕ) (reach : Reach) (u w : UnitState) : Type 0 where
  pub sender : (r : ℕ) → IsSo s u (Registration from r) → (n : ℕ) × IsSo s w (Registration from n) × ((n ≡ r) ⊎ (has reach.given n ≡ true))
  pub others : (g r : ℕ) → g ≢ from → IsSo s u (Registration g r) → (n : ℕ) × IsSo s w (Registration g n) × ((n ≡ r) ⊎ ((n ≡ 0) × (has reach.removed r ≡ true)))
  pub reservation : (x : ℕ) × IsSo s w (Reservation x) × (IsSo s u (Reservation x) ⊎ (has_wide reach.reservations x ≡ true))
  pub told : (r q : ℕ) → IsSo s u (Registration s.own r) → IsSo s u (Attentions q) → (n : ℕ) × IsSo s w (Attentions n) × ((n ≡ q) ⊎ IsTold reach r q n)

-- what is so after the step was so before it, or is one of these possibilities; and each of its parts has a number
pub record IsAtMost (s : Scope) (most : Possibilities) (u w : UnitState) : Type 0 where
  pub items : (i : Item) → IsSo s w i → IsSo s u i ⊎ IsPossible (view_in s most) i
  pub numbered : (g : ℕ) → g < s.hosts → (r : ℕ) × IsSo s w (Registration g r)
  pub pending : (q : ℕ) × IsSo s w (Attentions q)

-- whatever a command of the clause leads to under this reservation is in reach
abbrev pub IsReach : Scope → Possibilities → Clause → ℕ → ℕ → Reach → Type 0
IsReach s view clause sender x reach = (u w : UnitState) → PlaceLeads (view_in s view) clause sender x u w → IsWithin s sender reach u w

-- so it is in each view of the onlooker's, under every reservation
abbrev pub Reaches : Onlooker → Clause → Reach → Type 0
Reaches o clause reach = (s : Scope) → IsOnlooking s o → (x : ℕ) → IsReach s o.view clause o.other x reach

-- each but the sender may be free or have the key of this number
abbrev pub MayAllGo : Possibilities → ℕ → ℕ → ℕ → Type 0
MayAllGo view hosts sender j = (g : ℕ) → g < hosts → g ≢ sender → (has_at view.registrations g 0 || has_at view.registrations g j) ≡ true

-- the reservation is among those that they may hold
abbrev pub IsHeldAmong : Holders → Option Held → Type 0
IsHeldAmong p None = p.nobody ≡ true
IsHeldAmong p (Some (One WriteExclusive h)) = has p.write h ≡ true
IsHeldAmong p (Some (One ExclusiveAccess h)) = has p.exclusive h ≡ true
IsHeldAmong p (Some (One WriteExclusiveRegistrantsOnly h)) = has p.write_registrants h ≡ true
IsHeldAmong p (Some (One ExclusiveAccessRegistrantsOnly h)) = has p.exclusive_registrants h ≡ true
IsHeldAmong p (Some (One WriteExclusiveAllRegistrants h)) = ⊥
IsHeldAmong p (Some (One ExclusiveAccessAllRegistrants h)) = ⊥
IsHeldAmong p (Some (All kind)) = p.everybody ≡ true

-- every one of these reservations is
abbrev pub AreHolders : ℕ → Wide → Holders → Type 0
AreHolders hosts possible p = (held : Option Held) → is_reservation hosts held ≡ true → has_wide possible (number_of hosts held) ≡ true → IsHeldAmong p held

-- such a command leaves no more
abbrev pub IsMost : Scope → Possibilities → Clause → ℕ → Possibilities → Type 0
IsMost s view clause sender most = (x : ℕ) (u w : UnitState) → PlaceLeads (view_in s view) clause sender x u w → IsAtMost s most u w

-- what is so in a shown state is possible
abbrev pub HasShown : Scope → Possibilities → Possibilities → Type 0
HasShown s view p = (u : UnitState) (i : Item) → Shows (view_in s view) u → IsSo s u i → IsPossible (view_in s p) i
