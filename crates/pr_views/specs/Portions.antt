-- Agrees with docs/VIEWS.md, 'What a view has'.
-- Sets of the states that a view shows. Every question about those states is asked of such portions.
use Rattle.std.specs.Prelude.{◌≡◌, ◌≢◌, ◌⊎◌, ℕ, ◌<◌, Bool, true, false, List, Option, Some, None, option_map}
use Rattle.std.specs.FinSet as set
use Rattle.std.specs.List.{slice_get}
use Rattle.std.specs.Option.{option_map_or}
use Rattle.pr_registry.specs.declared.held.Held.{Held}
use Rattle.pr_registry.specs.declared.held.Held.TheVariants.{One, All}
use Rattle.pr_unit.specs.UnitStates.{UnitState}
use Rattle.pr_roles.specs.Fitting.{is_reservation}
use Rattle.pr_sets.specs.declared.bit_set.BitSet.{BitSet}
use Rattle.pr_sets.specs.BitSets.{has}
use Rattle.pr_sets.specs.Numbers.{Numbers}
use Rattle.pr_sets.specs.Wides.{has_wide}
use Rattle.pr_views.specs.declared.portion.Portion.{Portion}
use Rattle.pr_views.specs.declared.possibilities.Possibilities.{Possibilities}
use Rattle.pr_views.specs.Possibilities.{Scope, Item, Registration, Reservation, Attentions, IsSo, number_of}
use Rattle.pr_views.specs.Views.{View, Shows}

-- n is in the word at this place of the list
abbrev pub has_at : List BitSet → ℕ → ℕ → Bool
has_at words g n = option_map_or (λ w. has w n) (slice_get words g) false

-- n is a member of the set at this place of the list
abbrev pub contains_at : {S : Type 0} → (S → Numbers) → List S → ℕ → ℕ → Bool
contains_at members sets g n = option_map_or (λ s. set.contains (members s) n) (slice_get sets g) false

-- the view that possibilities are, to whom they belong
abbrev pub view_in : Scope → Possibilities → View
view_in s p = record { scope = s; registrations = has_at p.registrations; reservations = has_wide p.reservations; pending = has p.pending }

-- some nexus but the sender has a registration that passes, if there is a test
abbrev pub HasSomebody : Scope → UnitState → ℕ → Option (ℕ → Bool) → Type 0
HasSomebody s u sender None = Unit {0}
HasSomebody s u sender (Some passes) = (g : ℕ) × (r : ℕ) × (g ≢ sender) × IsSo s u (Registration g r) × (passes r ≡ true)

-- The view shows the state, and it is in the portion: it has its reservation; each nexus has one of the
-- registrations left to it; and, if there is a test, one other than the sender has one that passes it.
pub record IsIn (v : View) (p : Portion) (u : UnitState) : Type 0 where
  pub shown : Shows v u
  pub reservation : IsSo v.scope u (Reservation p.reservation)
  pub registrations : (g r : ℕ) → IsSo v.scope u (Registration g r) → has_at p.registrations g r ≡ true
  pub somebody : HasSomebody v.scope u p.sender (option_map has p.somebody)

-- this is so in some state of the portion, in which these attentions are pending for the owner
pub record IsTogether (v : View) (p : Portion) (i : Item) (q : ℕ) : Type 0 where
  pub unit : UnitState
  pub inside : IsIn v p unit
  pub is : IsSo v.scope unit i
  pub pending : IsSo v.scope unit (Attentions q)

-- a registration of none does not pass the test
abbrev pub TestsRegistered : Option BitSet → Type 0
TestsRegistered None = ⊥
TestsRegistered (Some w) = has w 0 ≡ false

-- whoever has one of the registrations left to it, a reservation of this kind has a holder
abbrev pub GivesHolder : Portion → Option Held → Type 0
GivesHolder p None = Unit {0}
GivesHolder p (Some (One kind h)) = has_at p.registrations h 0 ≡ false
GivesHolder p (Some (All kind)) = (has_at p.registrations p.sender 0 ≡ false) ⊎ TestsRegistered p.somebody

-- The portion is of this view: it has nothing that the view has not, and each reservation in it has its holder.
pub record IsPortion (v : View) (p : Portion) : Type 0 where
  pub sender : p.sender < v.scope.hosts
  pub registrations : (g r : ℕ) → g < v.scope.hosts → has_at p.registrations g r ≡ true → v.registrations g r ≡ true
  pub reservation : v.reservations p.reservation ≡ true
  pub holder : (held : Option Held) → is_reservation v.scope.hosts held ≡ true → p.reservation ≡ number_of v.scope.hosts held → GivesHolder p held

-- each nexus that is there has some number
abbrev pub AreFilled : ℕ → List BitSet → Type 0
AreFilled hosts words = (g : ℕ) → g < hosts → (n : ℕ) × (has_at words g n ≡ true)

-- the numbers that each has here it has there
abbrev pub AreWithin : List BitSet → List BitSet → Type 0
AreWithin words others = (g n : ℕ) → has_at words g n ≡ true → has_at others g n ≡ true

-- What the states of a portion have: of each nexus just these registrations, each beside any attentions of
-- the owner that the view has.
pub record IsProjected (v : View) (p : Portion) (registrations : List BitSet) : Type 0 where
  pub all : (u : UnitState) (g r : ℕ) → IsIn v p u → IsSo v.scope u (Registration g r) → has_at registrations g r ≡ true
  pub only : (g r q : ℕ) → g < v.scope.hosts → has_at registrations g r ≡ true → v.pending q ≡ true → IsTogether v p (Registration g r) q
  pub some : (q : ℕ) → v.pending q ≡ true → IsTogether v p (Reservation p.reservation) q
