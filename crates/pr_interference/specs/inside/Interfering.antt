-- What the steps of another add to possibilities.
use Rattle.std.specs.Prelude.{◌≡◌, ◌≢◌, ℕ, true, false, None, List}
use Rattle.std.specs.List.{All, Any}
use Rattle.pr_cdb.specs.declared.command.Command.{Command}
use Rattle.pr_cdb.specs.declared.wire.Request.TheVariants.{Plain}
use Rattle.pr_cdb.specs.Ranges.{Fits as IsCommand}
use Rattle.pr_unit.specs.UnitStates.{UnitState, effect}
use Rattle.pr_unit.specs.Conduct.{command_conflicts, command_fault}
use Rattle.pr_unit.specs.Laws.{request_looks}
use Rattle.pr_roles.specs.declared.role.Clause.{Clause}
use Rattle.pr_roles.specs.Permits.{clause_permits}
use Rattle.pr_sets.specs.declared.bit_set.BitSet.{BitSet}
use Rattle.pr_views.specs.declared.possibilities.Possibilities.{Possibilities}
use Rattle.pr_views.specs.Possibilities.{Scope, Item, IsSo}
use Rattle.pr_views.specs.Views.{View, IsPossible, Shows, Fits}
use Rattle.pr_views.specs.Portions.{view_in}
use Rattle.pr_regions.specs.declared.region.Region.{Region}
use Rattle.pr_regions.specs.declared.region.Transition.{Transition}
use Rattle.pr_regions.specs.declared.region.Ending.TheVariants as ending
use Rattle.pr_regions.specs.declared.region.Branch.{Branch}
use Rattle.pr_regions.specs.Regions.{Changes, IsProper}
use Rattle.pr_regions.specs.declared.place.Place.{Place}
use Rattle.pr_interference.specs.declared.onlooker.Onlooker.{Onlooker}
use Rattle.pr_regions.specs.Gathering.{IsPlace, IsUniform, IsAt}
use Rattle.pr_regions.specs.inside.Adding.{Allows, Adds}

-- it is a place of the onlooker's view, and its sender is another
pub record IsWatched (s : Scope) (o : Onlooker) (place : Place) : Type 0 where
  pub known : IsPlace s o.view place
  pub own : s.own ≡ o.own
  pub other : s.own ≢ place.sender

-- it is a view of the onlooker's
pub record IsOnlooking (s : Scope) (o : Onlooker) : Type 0 where
  pub hosts : s.hosts ≡ o.hosts
  pub own : s.own ≡ o.own
  pub other : s.own ≢ o.other
  pub keys : s.keys ≡ o.keys.now
  pub fits : Fits (view_in s o.view)

-- after the change in some state of the region, this is so
pub record IsChanged (s : Scope) (view : Possibilities) (place : Place) (senders : BitSet) (region : Region) (change : Transition) (i : Item) : Type 0 where
  pub from : UnitState
  pub at : IsAt (view_in s view) place senders region from
  pub is : (w : UnitState) → Changes s place.sender change from w → IsSo s w i

-- the possibilities are those of the states that the change leads to
pub record IsAfter (s : Scope) (view : Possibilities) (place : Place) (senders : BitSet) (region : Region) (change : Transition) (after : Possibilities) : Type 0 where
  pub all : (u w : UnitState) → IsAt (view_in s view) place senders region u → Changes s place.sender change u w → Allows s after w
  pub only : (i : Item) → IsPossible (view_in s after) i → IsChanged s view place senders region change i

-- ---- branches

-- a branch that ends GOOD leads so from a state of its region
pub record IsLedBy (s : Scope) (view : Possibilities) (place : Place) (senders : BitSet) (branch : Branch) (u w : UnitState) : Type 0 where
  pub change : Transition
  pub good : branch.ending ≡ ending.Good change
  pub at : IsAt (view_in s view) place senders branch.region u
  pub changes : Changes s place.sender change u w

-- it leaves this behind in a state of its region
pub record IsLeftBy (s : Scope) (view : Possibilities) (place : Place) (senders : BitSet) (branch : Branch) (i : Item) : Type 0 where
  pub change : Transition
  pub good : branch.ending ≡ ending.Good change
  pub changed : IsChanged s view place senders branch.region change i

-- In each view of the onlooker's, the answer gains what the branch leads to, if its sender is one of these.
abbrev pub AddsBranch : Onlooker → Place → BitSet → Branch → Possibilities → Possibilities → Type 0
AddsBranch o place senders branch old new = (s : Scope) → IsWatched s o place → IsUniform senders → IsProper branch
    → Adds s old new (IsLedBy s o.view place senders branch) (IsLeftBy s o.view place senders branch)

-- it gains what any of the branches leads to
abbrev pub AddsBranches : Onlooker → Place → BitSet → List Branch → Possibilities → Possibilities → Type 0
AddsBranches o place senders branches old new = (s : Scope) → IsWatched s o place → IsUniform senders → All IsProper branches
    → Adds s old new (λ u w. Any (λ b. IsLedBy s o.view place senders b u w) branches) (λ i. Any (λ b. IsLeftBy s o.view place senders b i) branches)

-- ---- clauses

-- a service action that the clause permits, and that ends GOOD once nothing is pending for its sender
pub record IsFree (clause : Clause) (sender : ℕ) (u : UnitState) (c : Command) : Type 0 where
  pub fits : IsCommand c
  pub acts : request_looks (Plain c) ≡ false
  pub permitted : clause_permits clause u.registry sender c ≡ true
  pub free : command_conflicts u.registry sender c ≡ false
  pub whole : command_fault u.registry sender c ≡ None

-- such a command leads so from a shown state
pub record ClauseLeads (v : View) (clause : Clause) (sender : ℕ) (u w : UnitState) : Type 0 where
  pub shown : Shows v u
  pub command : Command
  pub free : IsFree clause sender u command
  pub after : w ≡ effect u sender command

-- it leaves this behind
abbrev pub ClauseLeaves : View → Clause → ℕ → Item → Type 0
ClauseLeaves v clause sender i = (u w : UnitState) × ClauseLeads v clause sender u w × IsSo v.scope w i
