-- What the clauses of a role ask for, reservation by reservation and standing by standing.
use Rattle.std.specs.Prelude.{◌≡◌, ℕ, ◌≤◌, Bool, true, false, not, ◌&&◌, ◌||◌, ◌==◌, if◌then◌else◌, List, Option, Some, None, option_map}
use Rattle.std.specs.List.{Any}
use Rattle.pr_cdb.specs.declared.command.Command.{Command}
use Rattle.pr_cdb.specs.declared.command.Kind.{Kind}
use Rattle.pr_registry.specs.declared.held.Held.{Held}
use Rattle.pr_registry.specs.Registrations.{kind_of}
use Rattle.pr_unit.specs.UnitStates.{UnitState, effect}
use Rattle.pr_roles.specs.declared.limits.TheConstants.{MOST_KEYS}
use Rattle.pr_roles.specs.declared.role.Action.{Action}
use Rattle.pr_roles.specs.declared.role.Action.TheVariants as action
use Rattle.pr_roles.specs.declared.role.Condition.{Condition}
use Rattle.pr_roles.specs.declared.role.Clause.{Clause}
use Rattle.pr_sets.specs.declared.bit_set.BitSet.{BitSet}
use Rattle.pr_sets.specs.BitSets.{has}
use Rattle.pr_views.specs.Possibilities.{Scope, Registration, Reservation, IsSo}
use Rattle.pr_views.specs.declared.possibilities.Possibilities.{Possibilities}
use Rattle.pr_views.specs.Portions.{view_in}
use Rattle.pr_views.specs.Views.{View, Shows}
use Rattle.pr_regions.specs.Purposes.{Purpose, number_in, purpose_of}
use Rattle.pr_unit.specs.declared.demand.Demand.TheVariants.{Look, Read, Write, Register, Unregister, Reserve, Release, Clear, PreemptAll, Preempt}
use Rattle.pr_regions.specs.declared.purpose.Standing.{Standing}
use Rattle.pr_regions.specs.declared.purpose.Standing.TheVariants.{Unregistered, Named, Other}
use Rattle.pr_regions.specs.Conditions.{holds_as}
use Rattle.pr_regions.specs.Regions.{standing_of}
use Rattle.pr_interference.specs.inside.Interfering.{IsFree, IsOnlooking, IsWatched, ClauseLeads, ClauseLeaves}
use Rattle.pr_interference.specs.declared.onlooker.Onlooker.{Onlooker}
use Rattle.pr_regions.specs.declared.place.Place.{Place}
use Rattle.pr_regions.specs.inside.Adding.{Adds}

-- the key zero is all other registrations
abbrev pub purpose_of_preempt : List ℕ → ℕ → Kind → Purpose
purpose_of_preempt keys key kind = if key == 0 then PreemptAll kind else Preempt (number_in keys key) kind

-- What a clause of this action asks for under a reservation, if it changes anything: a RELEASE releases the type that
-- stands.
abbrev pub purpose_for : List ℕ → Action → Option Held → Option Purpose
purpose_for keys (action.Register key) held = Some (Register (number_in keys key))
purpose_for keys action.Unregister held = Some Unregister
purpose_for keys (action.Reserve kind) held = Some (Reserve kind)
purpose_for keys action.Release held = option_map (λ v. Release (kind_of v)) held
purpose_for keys action.Clear held = Some Clear
purpose_for keys (action.Preempt key kind) held = Some (purpose_of_preempt keys key kind)
purpose_for keys action.Read held = None
purpose_for keys action.Write held = None

-- a sender that is not registered is refused
abbrev pub refuses_strangers : Purpose → Bool
refuses_strangers Look = false
refuses_strangers (Read ranges) = false
refuses_strangers (Write ranges) = false
refuses_strangers (Register j) = false
refuses_strangers Unregister = false
refuses_strangers (Reserve kind) = true
refuses_strangers (Release kind) = true
refuses_strangers Clear = true
refuses_strangers (PreemptAll kind) = true
refuses_strangers (Preempt j kind) = true

abbrev pub is_registered_as : Standing → Bool
is_registered_as Unregistered = false
is_registered_as Named = true
is_registered_as Other = true

-- a sender that stands so meets the condition, and is not refused as a stranger
abbrev pub may_send : Option Condition → Purpose → Option Held → ℕ → Standing → Bool
may_send condition purpose held sender standing =
    holds_as condition held sender (is_registered_as standing) && (is_registered_as standing || not (refuses_strangers purpose))

-- the word has the registrations with which a sender stands so
pub record AreSenders (purpose : Purpose) (standing : Standing) (word : BitSet) : Type 0 where
  pub all : (r : ℕ) → r ≤ MOST_KEYS → standing_of purpose r ≡ standing → has word r ≡ true
  pub only : (r : ℕ) → has word r ≡ true → standing_of purpose r ≡ standing

-- Under this reservation, a command of the clause for this purpose leads so from a shown state.
pub record PurposeLeads (v : View) (clause : Clause) (sender : ℕ) (reservation : ℕ) (purpose : Purpose) (u w : UnitState) : Type 0 where
  pub shown : Shows v u
  pub reserved : IsSo v.scope u (Reservation reservation)
  pub command : Command
  pub free : IsFree clause sender u command
  pub asked : purpose_of v.scope.keys command ≡ Some purpose
  pub after : w ≡ effect u sender command

-- a sender that stands so
pub record StandingLeads (v : View) (clause : Clause) (sender : ℕ) (reservation : ℕ) (purpose : Purpose) (standing : Standing) (u w : UnitState) : Type 0 where
  pub leads : PurposeLeads v clause sender reservation purpose u w
  pub stands : (r : ℕ) → IsSo v.scope u (Registration sender r) → standing_of purpose r ≡ standing

-- under this reservation, by what the clause asks for there
pub record PlaceLeads (v : View) (clause : Clause) (sender : ℕ) (reservation : ℕ) (u w : UnitState) : Type 0 where
  pub purpose : Purpose
  pub meant : purpose_for v.scope.keys clause.action u.registry.held ≡ Some purpose
  pub leads : PurposeLeads v clause sender reservation purpose u w

-- The answer gains what a command of the clause leads to, in each view of the onlooker's.
abbrev pub AddsClause : Onlooker → Clause → Possibilities → Possibilities → Type 0
AddsClause o clause old new = (s : Scope) → IsOnlooking s o → Adds s old new (ClauseLeads (view_in s o.view) clause o.other) (ClauseLeaves (view_in s o.view) clause o.other)

-- it gains what one of any clause of the role leads to
abbrev pub AddsRole : Onlooker → Possibilities → Possibilities → Type 0
AddsRole o old new = (s : Scope) → IsOnlooking s o
    → Adds s old new (λ u w. Any (λ clause. ClauseLeads (view_in s o.view) clause o.other u w) o.clauses.now) (λ i. Any (λ clause. ClauseLeaves (view_in s o.view) clause o.other i) o.clauses.now)

-- it gains what one of this clause leads to under the reservation of a place
abbrev pub AddsPlace : Onlooker → Place → Clause → Possibilities → Possibilities → Type 0
AddsPlace o place clause old new = (s : Scope) → IsWatched s o place → s.keys ≡ o.keys.now
    → Adds s old new (PlaceLeads (view_in s o.view) clause place.sender place.reservation) (ClauseLeaves (view_in s o.view) clause place.sender)
