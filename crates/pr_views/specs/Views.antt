-- Agrees with docs/VIEWS.md, 'What a view has'.
-- What a host can know of the logical unit. A view says what is possible of each registration, of the
-- reservation and of the owner's attentions, each by itself, and so shows every well formed state whose fields
-- are among its possibilities. Of PRGENERATION and of what is pending for others it says nothing.
-- In the language of abstract interpretation this is the concretization of a product of sets.
use Rattle.std.specs.Prelude.{◌≡◌, ℕ, ◌<◌, ◌≤◌, Bool, true, length}
use Rattle.pr_unit.specs.UnitStates.{UnitState, IsWellFormed}
use Rattle.pr_views.specs.Possibilities.{Scope, IsScope, Item, Registration, Reservation, Attentions, IsSo, count_of_reservations, count_of_attentions}

-- for each nexus the registrations, the reservations, and the owner's attentions, that are possible
pub record View : Type 0 where
  pub scope : Scope
  pub registrations : ℕ → ℕ → Bool
  pub reservations : ℕ → Bool
  pub pending : ℕ → Bool

-- the view has this possibility
abbrev pub IsPossible : View → Item → Type 0
IsPossible v (Registration g r) = (g < v.scope.hosts) × (v.registrations g r ≡ true)
IsPossible v (Reservation x) = v.reservations x ≡ true
IsPossible v (Attentions q) = v.pending q ≡ true

-- it is possible in the view, and so in the state
abbrev pub IsSeen : View → UnitState → Item → Type 0
IsSeen v u i = IsPossible v i × IsSo v.scope u i

-- The view shows the state: it is well formed, and what is so of each registration, of the reservation and of
-- the owner's attentions is possible.
pub record Shows (v : View) (u : UnitState) : Type 0 where
  pub formed : IsWellFormed u
  pub hosts : u.registry.hosts ≡ v.scope.hosts
  pub registrations : (g : ℕ) → g < v.scope.hosts → (r : ℕ) × IsSeen v u (Registration g r)
  pub reservation : (x : ℕ) × IsSeen v u (Reservation x)
  pub pending : (q : ℕ) × IsSeen v u (Attentions q)

-- each possibility is one by its number
pub record Fits (v : View) : Type 0 where
  pub scope : IsScope v.scope
  pub registrations : (g r : ℕ) → v.registrations g r ≡ true → r ≤ length v.scope.keys
  pub reservations : (x : ℕ) → v.reservations x ≡ true → x < count_of_reservations v.scope.hosts
  pub pending : (q : ℕ) → v.pending q ≡ true → q < count_of_attentions

-- what is possible in one view is possible in the other
abbrev pub Within : View → View → Type 0
Within v w = (i : Item) → IsPossible v i → IsPossible w i
