-- Agrees with docs/VIEWS.md, 'What becomes of a view'.
-- What of a view's possibilities is so in some state that it shows, and which of them others are without.
use Rattle.std.specs.Prelude.{◌≡◌, ℕ}
use Rattle.pr_unit.specs.UnitStates.{UnitState}
use Rattle.pr_views.specs.declared.possibilities.Possibilities.{Possibilities}
use Rattle.pr_views.specs.Possibilities.{Scope, Item, IsSo}
use Rattle.pr_views.specs.Views.{View, IsPossible, Shows, Fits, Within}
use Rattle.pr_views.specs.Portions.{view_in}

-- in some shown state this is so
pub record IsShownSo (v : View) (i : Item) : Type 0 where
  pub unit : UnitState
  pub shown : Shows v unit
  pub is : IsSo v.scope unit i

-- these possibilities are what is so in the shown states
pub record IsKept (v kept : View) : Type 0 where
  pub all : (u : UnitState) (i : Item) → Shows v u → IsSo v.scope u i → IsPossible kept i
  pub only : (i : Item) → IsPossible kept i → IsShownSo v i

-- a possibility that the old ones are without
pub record IsNew (s : Scope) (old new : Possibilities) : Type 0 where
  pub item : Item
  pub possible : IsPossible (view_in s new) item
  pub not_before : IsPossible (view_in s old) item → ⊥

-- whoever's the views are: these possibilities are what is so in the states that the view of so many nexuses shows
abbrev pub IsKeptOf : ℕ → Possibilities → Possibilities → Type 0
IsKeptOf hosts view kept = (s : Scope) → s.hosts ≡ hosts → Fits (view_in s view) → IsKept (view_in s view) (view_in s kept)

-- .. and what is possible in the one is possible in the other
abbrev pub IsWithinOf : ℕ → Possibilities → Possibilities → Type 0
IsWithinOf hosts new old = (s : Scope) → s.hosts ≡ hosts → Within (view_in s new) (view_in s old)
