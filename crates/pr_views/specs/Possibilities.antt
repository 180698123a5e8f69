-- Agrees with docs/VIEWS.md, 'What a view has'.
-- What is possible of a logical unit, as numbers: a nexus's registration, the reservation, and the unit
-- attentions that are pending for the host whose view it is.
use Rattle.std.specs.Prelude.{◌≡◌, ℕ, ◌+◌, ◌*◌, ◌<◌, ◌≤◌, List, length, Option, Some, None}
use Rattle.std.specs.FinSet as set
use Rattle.pr_cdb.specs.declared.command.Kind.{Kind}
use Rattle.pr_cdb.specs.declared.command.Kind.TheVariants.{WriteExclusive, ExclusiveAccess, WriteExclusiveRegistrantsOnly, ExclusiveAccessRegistrantsOnly, WriteExclusiveAllRegistrants, ExclusiveAccessAllRegistrants}
use Rattle.pr_cdb.specs.declared.codes.TheConstants.{MOST_NEXUSES}
use Rattle.pr_registry.specs.declared.held.Held.{Held}
use Rattle.pr_registry.specs.declared.held.Held.TheVariants.{One, All}
use Rattle.pr_registry.specs.Registrations.{key_of}
use Rattle.pr_attention.specs.Flagged.{codes_of}
use Rattle.pr_unit.specs.UnitStates.{UnitState, is_pending}
use Rattle.pr_roles.specs.Fitting.{AreDeclared}
use Rattle.pr_roles.specs.Keys.{key_at}
use Rattle.pr_views.specs.declared.view.TheConstants.{ATTENTION_SETS}

-- Whose view it is, how many nexuses there are, and the declared keys, whose order numbers the
-- registrations.
pub record Scope : Type 0 where
  pub own : ℕ
  pub hosts : ℕ
  pub keys : List ℕ

-- some nexuses, no more than a unit has room for, the owner among them, and keys that a scenario can declare
pub record IsScope (s : Scope) : Type 0 where
  pub hosts : (1 ≤ s.hosts) × (s.hosts ≤ MOST_NEXUSES)
  pub own : s.own < s.hosts
  pub keys : AreDeclared s.keys

-- the place of a type among those with one holder (1, 3, 5, 6), and among those of all registrants (7, 8)
abbrev pub place_of : Kind → ℕ
place_of WriteExclusive = 0
place_of ExclusiveAccess = 1
place_of WriteExclusiveRegistrantsOnly = 2
place_of ExclusiveAccessRegistrantsOnly = 3
place_of WriteExclusiveAllRegistrants = 0
place_of ExclusiveAccessAllRegistrants = 1

-- The number of a reservation: 0 for none, then types 1, 3, 5 and 6, each by its holder, then 7 and 8.
abbrev pub number_of : ℕ → Option Held → ℕ
number_of hosts None = 0
number_of hosts (Some (One kind h)) = 1 + (hosts * place_of kind + h)
number_of hosts (Some (All kind)) = 1 + (hosts * 4 + place_of kind)

-- how many reservations there can be: 67 where there are 16 nexuses
abbrev pub count_of_reservations : ℕ → ℕ
count_of_reservations hosts = hosts * 4 + 3

-- how many sets of the four codes there are
abbrev pub count_of_attentions : ℕ
count_of_attentions = ATTENTION_SETS

-- the registration of a nexus; the reservation; the attentions pending for the owner, with a bit for
-- each code
pub data Item : Type 0 where
  Registration : ℕ → ℕ → Item
  Reservation : ℕ → Item
  Attentions : ℕ → Item

-- it is so in this state
abbrev pub IsSo : Scope → UnitState → Item → Type 0
IsSo s u (Registration g r) = (g < s.hosts) × (r ≤ length s.keys) × (key_of u.registry g ≡ key_at s.keys r)
IsSo s u (Reservation x) = x ≡ number_of s.hosts u.registry.held
IsSo s u (Attentions q) = (q < count_of_attentions) × ((code : ℕ) → is_pending u s.own code ≡ set.contains (codes_of q) code)
