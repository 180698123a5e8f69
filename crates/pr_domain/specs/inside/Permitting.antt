-- Whether a role permits a host's command, wherever the command ends GOOD.
use Rattle.std.specs.Prelude.{◌≡◌, ℕ, Bool, true, false, ◌&&◌, ◌||◌, IsTrue, List, [], None, is_some}
use Rattle.std.specs.List.{list_any}
use Rattle.pr_cdb.specs.declared.command.Command.{Command}
use Rattle.pr_unit.specs.UnitStates.{UnitState}
use Rattle.pr_unit.specs.Conduct.{command_conflicts, command_fault}
use Rattle.pr_roles.specs.declared.role.Clause.{Clause}
use Rattle.pr_roles.specs.Permits.{names, clause_permits}
use Rattle.pr_sets.specs.BitSets.{has}
use Rattle.pr_views.specs.declared.possibilities.Possibilities.{Possibilities}
use Rattle.pr_views.specs.Possibilities.{Scope, Reservation, Attentions, IsSo}
use Rattle.pr_views.specs.Views.{View, Shows, Fits}
use Rattle.pr_views.specs.Portions.{view_in}
use Rattle.pr_regions.specs.Conditions.{holds_as, is_holder_as}
use Rattle.pr_regions.specs.declared.place.Place.{Place}
use Rattle.pr_domain.specs.declared.permitting.Naming.{Naming}
use Rattle.pr_domain.specs.declared.tested.TestedCommand.{TestedCommand}
use Rattle.pr_domain.specs.inside.Tallies.{scope_at}

-- nothing is pending for the owner, and its command neither conflicts nor is at fault
pub record IsServed (s : Scope) (c : Command) (u : UnitState) : Type 0 where
  pub idle : IsSo s u (Attentions 0)
  pub free : command_conflicts u.registry s.own c ≡ false
  pub whole : command_fault u.registry s.own c ≡ None

-- some clause permits the command in each shown state with this reservation in which it ends GOOD
abbrev pub ArePermitted : View → List Clause → Command → ℕ → Type 0
ArePermitted v clauses c x =
    (u : UnitState) → Shows v u → IsSo v.scope u (Reservation x) → IsServed v.scope c u
    → IsTrue (list_any (λ clause. clause_permits clause u.registry v.scope.own c) clauses)

-- there is such a state, and no clause permits it there
pub record IsOneRefused (v : View) (clauses : List Clause) (c : Command) (x : ℕ) : Type 0 where
  pub unit : UnitState
  pub shown : Shows v unit
  pub reserved : IsSo v.scope unit (Reservation x)
  pub served : IsServed v.scope c unit
  pub refused : list_any (λ clause. clause_permits clause unit.registry v.scope.own c) clauses ≡ false

-- ---- a sender, registered or not

-- the clause permits the command to the sender of the place
abbrev pub permits_at : Clause → Command → Place → Bool → Bool
permits_at clause c place registered = names clause.action c && holds_as clause.condition place.held place.sender registered

-- some clause does
abbrev pub is_one_permitting : List Clause → Command → Place → Bool → Bool
is_one_permitting clauses c place registered = list_any (λ clause. permits_at clause c place registered) clauses

-- by the conditions under which clauses permit it
abbrev pub naming_permits : Naming → Place → Bool → Bool
naming_permits n place registered =
    n.freely || ((n.if_registered && registered) || ((n.if_holder && is_holder_as place.held place.sender registered) || (n.if_reserved && is_some place.held)))

-- these conditions permit the command to whom some clause does
abbrev pub IsNaming : List Clause → Command → Naming → Type 0
IsNaming clauses c n = (place : Place) (registered : Bool) → is_one_permitting clauses c place registered ≡ naming_permits n place registered

-- ---- what the walk over a view answers

-- the view of this sender, of so many nexuses, with the keys of its command
abbrev pub view_of_asker : TestedCommand → ℕ → ℕ → Possibilities → View
view_of_asker q hosts sender view = view_in (scope_at q.keys.now hosts sender) view

-- no arm is tested, the numbers are those of a view, and it is possible that nothing is pending for the sender
pub record IsAsking (q : TestedCommand) (hosts sender : ℕ) (view : Possibilities) : Type 0 where
  pub untested : q.tests.now ≡ []
  pub fits : Fits (view_of_asker q hosts sender view)
  pub idle : has view.pending 0 ≡ true

-- some clause permits the command in each shown state in which it ends GOOD
abbrev pub PermitsAll : TestedCommand → ℕ → ℕ → Possibilities → List Clause → Type 0
PermitsAll q hosts sender view clauses = (x : ℕ) → ArePermitted (view_of_asker q hosts sender view) clauses q.command x

-- in one of them none does
abbrev pub RefusesOne : TestedCommand → ℕ → ℕ → Possibilities → List Clause → Type 0
RefusesOne q hosts sender view clauses = (x : ℕ) × IsOneRefused (view_of_asker q hosts sender view) clauses q.command x

-- some clause permits it in each of those under the reservation of the place
abbrev pub PermitsAt : TestedCommand → Place → Possibilities → List Clause → Type 0
PermitsAt q place view clauses = ArePermitted (view_of_asker q place.hosts place.sender view) clauses q.command place.reservation

-- in one of these none does
abbrev pub RefusesAt : TestedCommand → Place → Possibilities → List Clause → Type 0
RefusesAt q place view clauses = IsOneRefused (view_of_asker q place.hosts place.sender view) clauses q.command place.reservation
