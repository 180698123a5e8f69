-- Agrees with docs/VIEWS.md, 'What becomes of a view'.
-- What others, or a reset, may make of the states that a view shows.
use Rattle.std.specs.Prelude.{◌≡◌, ◌≢◌, ℕ, ◌<◌, ◌==◌, Bool, true, not, IsTrue, List, length, Ok}
use Rattle.pr_cdb.specs.declared.reply.Reply.{Reply}
use Rattle.pr_cdb.specs.declared.wire.Request.{Request}
use Rattle.pr_cdb.specs.Ranges.{FitsWhereRead}
use Rattle.pr_unit.specs.UnitStates.{UnitState, reset}
use Rattle.pr_unit.specs.Replies.{is_good}
use Rattle.pr_unit.specs.Steps.{Step}
use Rattle.pr_roles.specs.declared.role.Clause.{Clause}
use Rattle.pr_roles.specs.Permits.{is_permitted}
use Rattle.pr_roles.specs.Scenarios.{Scenario, role}
use Rattle.pr_views.specs.Possibilities.{Item, IsSo}
use Rattle.pr_views.specs.Views.{View, IsPossible, Shows, Within}

-- a request of this sender that ends GOOD, and that the role permits in the state before it
pub record IsDone (role : List Clause) (sender : ℕ) (u : UnitState) (w : UnitState) : Type 0 where
  pub request : Request
  pub fits : FitsWhereRead (Ok request)
  pub reply : Reply
  pub step : Step u sender request reply w
  pub good : is_good reply ≡ true
  pub permitted : IsTrue (is_permitted role u.registry sender request)

-- from a shown state some such request leads to a state in which this is so
pub record IsLeft (v : View) (role : List Clause) (sender : ℕ) (i : Item) : Type 0 where
  pub from : UnitState
  pub shown : Shows v from
  pub after : UnitState
  pub done : IsDone role sender from after
  pub is : IsSo v.scope after i

-- The view shows each state that such a request leads to, and has nothing that none of them leaves.
pub record IsInterference (v : View) (role : List Clause) (sender : ℕ) (w : View) : Type 0 where
  pub cover : (u after : UnitState) → Shows v u → IsDone role sender u after → Shows w after
  pub only : (i : Item) → IsPossible w i → IsLeft v role sender i

-- after a reset in a shown state this is so
pub record IsLeftByReset (v : View) (i : Item) : Type 0 where
  pub from : UnitState
  pub shown : Shows v from
  pub is : IsSo v.scope (reset from) i

-- The view shows each shown state after a reset, and has nothing that is so in none of them.
pub record IsAfterReset (v w : View) : Type 0 where
  pub cover : (u : UnitState) → Shows v u → Shows w (reset u)
  pub only : (i : Item) → IsPossible w i → IsLeftByReset v i

-- the unit may be reset
abbrev pub declares_resets : Scenario → Bool
declares_resets s = not (s.resets == 0)

-- What may become of a state while its owner sends nothing: a permitted request of another ends GOOD, or the unit is reset.
pub data Becomes (s : Scenario) (own : ℕ) (u after : UnitState) : Type 0 where
  by_another : (g : ℕ) → g < length s.nexuses → g ≢ own → IsDone (role s g) g u after → Becomes s own u after
  by_reset : IsTrue (declares_resets s) → after ≡ reset u → Becomes s own u after

-- whatever becomes of a shown state is shown
abbrev pub IsClosed : Scenario → View → Type 0
IsClosed s v = (u after : UnitState) → Shows v u → Becomes s v.scope.own u after → Shows v after

-- the least closed view that has what the first has
pub record IsClosure (s : Scenario) (v w : View) : Type 0 where
  pub contains : Within v w
  pub closed : IsClosed s w
  pub least : (x : View) → x.scope ≡ v.scope → Within v x → IsClosed s x → Within w x
