-- Agrees with docs/VERDICTS.md, '`accepted`'.
-- Outlines: what a host can know of the unit at each place of its script. A sound outline is an inductive invariant, and
-- one that fits shows what safety asks of the host.
use Rattle.std.specs.Prelude.{◌≡◌, ℕ, ◌<◌, ◌≤◌, ◌==◌, true, if◌then◌else◌, List, [], ◌∷◌, length, map, Option, Some, None, IsSome, IsTrue}
use Rattle.std.specs.List.{Contains}
use Rattle.pr_cdb.specs.declared.reply.Reply.{Reply}
use Rattle.pr_cdb.specs.declared.wire.Request.TheVariants.{Plain}
use Rattle.pr_cdb.specs.Ranges.{Fits}
use Rattle.pr_unit.specs.UnitStates.{UnitState}
use Rattle.pr_unit.specs.Replies.{is_good}
use Rattle.pr_unit.specs.Steps.{Step}
use Rattle.pr_script.specs.Scripts.{Stmts}
use Rattle.pr_script.specs.Costs.{cost_of_all}
use Rattle.pr_roles.specs.DeclaredRefusals.{Answered, refusals_of}
use Rattle.pr_roles.specs.Permits.{command_permitted}
use Rattle.pr_roles.specs.Scenarios.{Scenario, Task, Scripted, Planned, role, task}
use Rattle.pr_roles.specs.Starts.{IsAllowedStart}
use Rattle.pr_views.specs.Possibilities.{Scope}
use Rattle.pr_views.specs.Views.{View, Shows}
use Rattle.pr_views.specs.Tables.{Outline}
use Rattle.pr_interference.specs.Interference.{Becomes}
use Rattle.pr_verify.specs.Places.{Place, places_of, first_lines, follows}

-- the view at this line
abbrev pub view_at : List (ℕ × View) → ℕ → Option View
view_at [] line = None
view_at (entry ∷ rest) line = if entry.0 == line then Some entry.1 else view_at rest line

abbrev pub ShowsIn : Option View → UnitState → Type 0
ShowsIn None u = ⊥
ShowsIn (Some v) u = Shows v u

-- there is a view at this line, and it shows the state
abbrev pub IsShownAt : Outline → ℕ → UnitState → Type 0
IsShownAt o line u = ShowsIn (view_at o.views line) u

-- what the views of a host speak of: the nexuses of the scenario, its declared keys, and what is pending for the host
abbrev pub scope_in : Scenario → ℕ → Scope
scope_in s own = record { own = own; hosts = length s.nexuses; keys = s.keys }

-- such are the views of the outline
abbrev pub IsOfScenario : Scenario → Outline → Type 0
IsOfScenario s o = (line : ℕ) (v : View) → view_at o.views line ≡ Some v → v.scope ≡ scope_in s o.host

-- ---- what a view has to show

-- an allowed start, where the send of this line may come first
pub record StartsAt (s : Scenario) (script : Stmts) (line : ℕ) (u : UnitState) : Type 0 where
  pub allowed : IsAllowedStart s u
  pub first : Contains (first_lines script) line

-- the host's own command, sent at this place from a state that is shown there, leads to this state; the arm that it takes
-- leads to this line
pub record ComesTo (s : Scenario) (o : Outline) (p : Place) (line : ℕ) (after : UnitState) : Type 0 where
  pub from : UnitState
  pub shown : IsShownAt o p.line from
  pub reply : Reply
  pub answer : Answered (refusals_of s o.host) from o.host (Plain p.command) reply after
  pub next : List ℕ
  pub follows : follows p reply ≡ Some next
  pub there : Contains next line

-- from a state that is shown at this line, a permitted command of another that ends GOOD leads to this state, or a reset
pub record IsLeftAt (s : Scenario) (o : Outline) (line : ℕ) (after : UnitState) : Type 0 where
  pub from : UnitState
  pub shown : IsShownAt o line from
  pub becomes : Becomes s o.host from after

-- what the view at a line has to show
pub data IsAsked (s : Scenario) (script : Stmts) (o : Outline) (line : ℕ) (u : UnitState) : Type 0 where
  at_start : StartsAt s script line u → IsAsked s script o line u
  by_itself : (p : Place) → Contains (places_of script) p → ComesTo s o p line u → IsAsked s script o line u
  by_others : IsLeftAt s o line u → IsAsked s script o line u

-- there is one view for each send of the script, in order
abbrev pub IsListed : Stmts → Outline → Type 0
IsListed script o = map (λ e. e.0) o.views ≡ map (λ p. p.line) (places_of script)

-- The outline has a view of the host for each send, and each view shows every state that it has to.
pub record IsSound (s : Scenario) (script : Stmts) (o : Outline) : Type 0 where
  pub listed : IsListed script o
  pub scenario : IsOfScenario s o
  pub shows : (line : ℕ) (u : UnitState) → IsAsked s script o line u → IsShownAt o line u

-- ---- what safety asks

-- From each state that is shown at the place, every reply to the host's command has an arm.
abbrev pub HasArms : Scenario → Outline → Place → Type 0
HasArms s o p =
    (u : UnitState) (r : Reply) (after : UnitState) → IsShownAt o p.line u → Answered (refusals_of s o.host) u o.host (Plain p.command) r after → IsSome (follows p r)

-- In each of them in which the command ends GOOD, the host's role permits it.
abbrev pub KeepsToRole : Scenario → Outline → Place → Type 0
KeepsToRole s o p =
    (u : UnitState) (r : Reply) (after : UnitState) → IsShownAt o p.line u → Step u o.host (Plain p.command) r after → is_good r ≡ true
    → IsTrue (command_permitted (role s o.host) u.registry o.host p.command)

-- at each place
pub record IsFitting (s : Scenario) (script : Stmts) (budget : ℕ) (o : Outline) : Type 0 where
  pub arms : (p : Place) → Contains (places_of script) p → HasArms s o p
  pub role : (p : Place) → Contains (places_of script) p → KeepsToRole s o p
  pub cost : cost_of_all script ≤ budget

-- ---- of a whole scenario

-- the host has an outline that is sound and fits
pub record HasOutline (s : Scenario) (h : ℕ) (script : Stmts) (budget : ℕ) : Type 0 where
  pub outline : Outline
  pub host : outline.host ≡ h
  pub sound : IsSound s script outline
  pub fitting : IsFitting s script budget outline

abbrev pub OnScripted : Option Task → (Stmts → ℕ → Type 0) → Type 0
OnScripted None P = Unit {0}
OnScripted (Some (Scripted script budget)) P = P script budget
OnScripted (Some (Planned commands)) P = Unit {0}

-- so it has, if it has a script
abbrev pub IsCarried : Scenario → ℕ → Type 0
IsCarried s h = OnScripted (task s h) (HasOutline s h)

-- so has each scripted host
abbrev pub HaveOutlines : Scenario → Type 0
HaveOutlines s = (h : ℕ) → h < length s.nexuses → IsCarried s h

-- the fields of what a script sends are in the ranges of their types, as those of each command that is a value are
abbrev pub SendsFit : Stmts → Type 0
SendsFit script = (p : Place) → Contains (places_of script) p → Fits p.command

-- so of a host's script, if it has one
abbrev pub HostSendsFit : Scenario → ℕ → Type 0
HostSendsFit s h = OnScripted (task s h) (λ script budget. SendsFit script)

-- so of each
abbrev pub AllSendsFit : Scenario → Type 0
AllSendsFit s = (h : ℕ) → h < length s.nexuses → HostSendsFit s h
