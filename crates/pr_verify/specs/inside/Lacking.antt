-- What the views of an outline have and lack, by where it comes from.
use Rattle.std.specs.Prelude.{◌≢◌, ℕ, ◌<◌, IsTrue, List, [], slice_index_or, Option}
use Rattle.std.specs.List.{All, Contains}
use Rattle.pr_unit.specs.UnitStates.{UnitState, reset}
use Rattle.pr_script.specs.declared.landing.Landing.{Landing}
use Rattle.pr_script.specs.declared.landing.Landing.TheVariants.{Arm, NoArm}
use Rattle.pr_roles.specs.Scenarios.{Scenario, role}
use Rattle.pr_views.specs.Views.{View, Shows}
use Rattle.pr_views.specs.Rooms.{view_of, AreAlike}
use Rattle.pr_interference.specs.Interference.{IsDone, declares_resets, Becomes}
use Rattle.pr_views.specs.Tables.{Outline, outline_of}
use Rattle.pr_verify.specs.inside.Kept.{KeptOutline, KeptView}
use Rattle.pr_verify.specs.Outlines.{view_at, IsShownAt}
use Rattle.pr_verify.specs.LeastOutlines.{IsWithinIn}
use Rattle.pr_verify.specs.inside.Least.{IsLeast, IsLeastAmong}

-- ---- states

-- the view at the line shows each state of this kind
abbrev pub HasAll : Outline → (ℕ → UnitState → Type 0) → ℕ → Type 0
HasAll o asked line = (u : UnitState) → asked line u → IsShownAt o line u

-- it lacks one
pub record Lacks (o : Outline) (asked : ℕ → UnitState → Type 0) (line : ℕ) : Type 0 where
  pub unit : UnitState
  pub asks : asked line unit
  pub missing : ¬ IsShownAt o line unit

abbrev pub IsFirstLacking : Outline → (ℕ → UnitState → Type 0) → Option ℕ → Type 0
IsFirstLacking o asked = IsLeast (HasAll o asked) (Lacks o asked)

-- ---- views

-- if it is one of these lines, then what is possible in w is so in the view there
abbrev pub HasView : Outline → List ℕ → View → ℕ → Type 0
HasView o lines w line = Contains lines line → IsWithinIn w (view_at o.views line)

-- it is one of them, and there is no such view
pub record LacksView (o : Outline) (lines : List ℕ) (w : View) (line : ℕ) : Type 0 where
  pub listed : Contains lines line
  pub missing : ¬ IsWithinIn w (view_at o.views line)

-- the view can be compared with each of these
abbrev pub CanCompare : List (ℕ × KeptView) → KeptView → Type 0
CanCompare views v = All (λ e. AreAlike v e.1) views

-- the view at the line has what is possible in this one, as they are kept
abbrev pub IsWithinAt : KeptOutline → KeptView → ℕ → Type 0
IsWithinAt o v line = IsWithinIn (view_of o.host v) (view_at (outline_of o).views line)

-- the first of these lines at which it has not
abbrev pub IsFirstWithout : KeptOutline → KeptView → List ℕ → Option ℕ → Type 0
IsFirstWithout o v lines =
    IsLeast (HasView (outline_of o) lines (view_of o.host v)) (LacksView (outline_of o) lines (view_of o.host v))

-- the lines at which the script may be ready after a landing
abbrev pub lines_after : List (List ℕ) → Landing → List ℕ
lines_after next (Arm n) = slice_index_or next n []
lines_after next (NoArm class) = []

-- the first of the lines after an outcome at which the view there has not what is possible in the outcome's
abbrev pub IsFirstWithoutAfter : KeptOutline → List (List ℕ) → List (Landing × KeptView) → Option ℕ → Type 0
IsFirstWithoutAfter o next outcomes =
    IsLeastAmong outcomes
    (λ x. HasView (outline_of o) (lines_after next x.0) (view_of o.host x.1))
    (λ x. LacksView (outline_of o) (lines_after next x.0) (view_of o.host x.1))

-- ---- others

-- from a state that the view shows, a permitted command of another or a reset leads to one that it does not show
pub record IsOpen (s : Scenario) (v : View) : Type 0 where
  pub from : UnitState
  pub shown : Shows v from
  pub after : UnitState
  pub becomes : Becomes s v.scope.own from after
  pub missing : ¬ Shows v after

-- permitted commands of the first n of the others keep to the view
abbrev pub IsClosedTo : ℕ → Scenario → View → Type 0
IsClosedTo n s v = (g : ℕ) → g < n → g ≢ v.scope.own → (u after : UnitState) → Shows v u → IsDone (role s g) g u after → Shows v after

-- so do resets, where there are any
abbrev pub IsClosedToResets : Scenario → View → Type 0
IsClosedToResets s v = IsTrue (declares_resets s) → (u : UnitState) → Shows v u → Shows v (reset u)
