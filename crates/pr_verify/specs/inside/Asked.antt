-- What the sends of a script come to in the views of an outline, where equal questions are asked once.
use Rattle.std.specs.Prelude.{◌≡◌, ℕ, List, Option, Some}
use Rattle.std.specs.List.{slice_get}
use Rattle.pr_script.specs.Scripts.{Stmts}
use Rattle.pr_script.specs.declared.landing.Landing.{Landing}
use Rattle.pr_roles.specs.DeclaredRefusals.{refusals_of}
use Rattle.pr_roles.specs.Scenarios.{Scenario, scenario_of}
use Rattle.pr_views.specs.Views.{View}
use Rattle.pr_views.specs.Rooms.{view_of}
use Rattle.pr_verify.specs.inside.Kept.{KeptView, IsMadeAs}
use Rattle.pr_verify.specs.declared.answers.Questions.{Questions}
use Rattle.pr_verify.specs.declared.places.Spot.{Spot}
use Rattle.pr_roles.specs.declared.refusal.Refusal.{Refusal}
use Rattle.pr_views.specs.declared.table.Row.{Row}
use Rattle.pr_views.specs.Tables.{Outline, outline_of, row_of}
use Rattle.pr_verify.specs.Outlines.{view_at, IsAsked, IsLeftAt, StartsAt}
use Rattle.pr_verify.specs.Places.{first_lines}
use Rattle.pr_verify.specs.Tables.{IsRow}
use Rattle.pr_verify.specs.inside.Known.{Asker, ComesTo}
use Rattle.pr_verify.specs.inside.Listing.{place_of, IsPlaceWritten}
use Rattle.pr_verify.specs.inside.Lacking.{IsFirstLacking, IsOpen}
use Rattle.pr_verify.specs.inside.Reviewing.{IsMisfit, IsFirstMisfit}

-- ---- questions

-- of what scenario they are, and of what outline
abbrev pub scenario_in : Questions → Scenario
scenario_in q = scenario_of q.scenario.now

abbrev pub outline_in : Questions → Outline
outline_in q = outline_of q.outline.now

-- the view, as its host knows it
abbrev pub view_in : Questions → KeptView → View
view_in q v = view_of q.outline.now.host v

-- who asks: each send in the view of its place
abbrev pub asker_of : Questions → Asker
asker_of q = record {
  own = q.outline.now.host;
  refusals = refusals_of (scenario_in q) q.outline.now.host;
  spots = q.spots.now;
  sees = λ place v. (line : ℕ) × (slice_get q.outline.now.views.items place ≡ Some (line, v));
}

-- these are what the command of the send comes to in the view, which is the one at its line
pub record IsAnswered (q : Questions) (v : KeptView) (p : Spot) (xs : List (Landing × KeptView)) : Type 0 where
  pub written : IsPlaceWritten (scenario_in q).keys (place_of p)
  pub view : IsMadeAs (scenario_in q) v
  pub here : view_at (outline_in q).views p.line ≡ Some (view_in q v)
  pub outcomes : ComesTo q.outline.now.host (refusals_of (scenario_in q) q.outline.now.host) v p xs

-- ---- what is found

-- the first line whose view lacks a state that it has to show; an allowed start, where the script begins with one of these lines;
-- what the others leave
abbrev pub IsFirstUnsound : Questions → Stmts → Option ℕ → Type 0
IsFirstUnsound q script = IsFirstLacking (outline_in q) (IsAsked (scenario_in q) script (outline_in q))

abbrev pub IsFirstUnstarted : Questions → List ℕ → Option ℕ → Type 0
IsFirstUnstarted q lines first = (script : Stmts) → first_lines script ≡ lines → IsFirstLacking (outline_in q) (StartsAt (scenario_in q) script) first

abbrev pub IsFirstLeft : Questions → Option ℕ → Type 0
IsFirstLeft q = IsFirstLacking (outline_in q) (IsLeftAt (scenario_in q) (outline_in q))

-- the view does not keep to what others do
abbrev pub IsOpenIn : Questions → KeptView → Type 0
IsOpenIn q v = IsOpen (scenario_in q) (view_in q v)

-- how a send does not fit, if it does not, and the first that does not
abbrev pub IsMisfitIn : Questions → Spot → Option Refusal → Type 0
IsMisfitIn q p = IsMisfit (scenario_in q) (outline_in q) (place_of p)

abbrev pub IsFirstMisfitIn : Questions → Option Refusal → Type 0
IsFirstMisfitIn q = IsFirstMisfit (scenario_in q) (outline_in q) q.spots.now

-- the row of a send
abbrev pub IsRowIn : Questions → Spot → Row → Type 0
IsRowIn q p r = IsRow (scenario_in q) (outline_in q) (place_of p) (row_of r)
