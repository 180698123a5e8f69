-- Agrees with docs/VERDICTS.md, 'What a refusal promises'.
-- Why an outline does not carry a host's script, and which of the reasons comes first.
use Rattle.std.specs.Prelude.{◌≡◌, ◌⊎◌, ℕ, ◌+◌, ◌*◌, ◌<◌, ◌≤◌, ◌==◌, true, false, if◌then◌else◌, List, [], ◌∷◌, map, min, Option, Some, None}
use Rattle.std.specs.List.{Contains}
use Rattle.pr_cdb.specs.declared.reply.Reply.{Reply}
use Rattle.pr_cdb.specs.declared.reply.Sense.{Sense as SenseOf}
use Rattle.pr_cdb.specs.declared.wire.Request.TheVariants.{Plain}
use Rattle.pr_unit.specs.UnitStates.{UnitState}
use Rattle.pr_unit.specs.Replies.{is_good}
use Rattle.pr_unit.specs.Steps.{Step}
use Rattle.pr_script.specs.declared.limits.TheConstants.{MOST_BUDGET}
use Rattle.pr_script.specs.Scripts.{Stmts}
use Rattle.pr_script.specs.Costs.{cost_of_all}
use Rattle.pr_script.specs.declared.landing.Class.{Class}
use Rattle.pr_script.specs.declared.landing.Class.TheVariants.{Good, Conflict, Busy, Full, Sense}
use Rattle.pr_roles.specs.DeclaredRefusals.{Answered, refusals_of}
use Rattle.pr_roles.specs.Permits.{command_permitted}
use Rattle.pr_roles.specs.Scenarios.{Scenario, role}
use Rattle.pr_regions.specs.Readings.{first_test}
use Rattle.pr_domain.specs.Landings.{IsClass}
use Rattle.pr_roles.specs.declared.refusal.Refusal.{Refusal}
use Rattle.pr_roles.specs.declared.refusal.Refusal.TheVariants.{NoArm, OutOfRole, OverBudget, Memory, NotSound}
use Rattle.pr_verify.specs.Places.{Place, places_of}
use Rattle.pr_views.specs.Tables.{Outline}
use Rattle.pr_verify.specs.Outlines.{IsShownAt, IsAsked, IsListed, IsSound, HasArms, KeepsToRole}

-- one more than the greatest budget: what costs more is not counted on
abbrev pub past_budgets : ℕ
past_budgets = MOST_BUDGET + 1

-- ---- an outline that is not sound

-- the view at this line lacks a state that it has to show
pub record LacksAt (s : Scenario) (script : Stmts) (o : Outline) (line : ℕ) : Type 0 where
  pub unit : UnitState
  pub asked : IsAsked s script o line unit
  pub missing : ¬ IsShownAt o line unit

-- it does, and no view at a smaller line
pub record LacksFirst (s : Scenario) (script : Stmts) (o : Outline) (line : ℕ) : Type 0 where
  pub listed : IsListed script o
  pub lacks : LacksAt s script o line
  pub first : (earlier : ℕ) → earlier < line → ¬ LacksAt s script o earlier

-- the smaller of two lines, at the first place at which the lists differ; where one of them ends there, the other's line
abbrev pub first_difference : List ℕ → List ℕ → Option ℕ
first_difference [] [] = None
first_difference [] (n ∷ ns) = Some n
first_difference (m ∷ ms) [] = Some m
first_difference (m ∷ ms) (n ∷ ns) = if m == n then first_difference ms ns else Some (min m n)

-- the views are not those of the script's sends
abbrev pub DiffersAt : Stmts → Outline → ℕ → Type 0
DiffersAt script o line = first_difference (map (λ e. e.0) o.views) (map (λ p. p.line) (places_of script)) ≡ Some line

-- ---- an outline that does not fit

-- in a state that is shown at the place, the host's command ends GOOD, and the host's role does not permit it
pub record BreaksRole (s : Scenario) (o : Outline) (p : Place) : Type 0 where
  pub from : UnitState
  pub shown : IsShownAt o p.line from
  pub reply : Reply
  pub after : UnitState
  pub step : Step from o.host (Plain p.command) reply after
  pub good : is_good reply ≡ true
  pub refused : command_permitted (role s o.host) from.registry o.host p.command ≡ false

-- from a state that is shown at the place, the host's command ends in this class, and no arm matches the reply
pub record LacksArm (s : Scenario) (o : Outline) (p : Place) (class : Class) : Type 0 where
  pub from : UnitState
  pub shown : IsShownAt o p.line from
  pub reply : Reply
  pub after : UnitState
  pub answer : Answered (refusals_of s o.host) from o.host (Plain p.command) reply after
  pub none : first_test p.tests reply ≡ None
  pub ends : IsClass reply class

abbrev pub sense_number : SenseOf → ℕ
sense_number sense = (sense.key * 256 + sense.asc) * 256 + sense.ascq

-- GOOD comes first, then RESERVATION CONFLICT, BUSY, TASK SET FULL, and then the senses by number
abbrev pub class_number : Class → ℕ
class_number Good = 0
class_number Conflict = 1
class_number Busy = 2
class_number Full = 3
class_number (Sense sense) = 4 + sense_number sense

-- it lacks an arm for this class, and for no class before it
pub record LacksArmFirst (s : Scenario) (o : Outline) (p : Place) (class : Class) : Type 0 where
  pub lacks : LacksArm s o p class
  pub first : (earlier : Class) → class_number earlier < class_number class → ¬ LacksArm s o p earlier

abbrev pub FitsAt : Scenario → Outline → Place → Type 0
FitsAt s o p = HasArms s o p × KeepsToRole s o p

-- Of a script that is within its budget and a sound outline: the place at this line does not fit, in this way, and each
-- place at a smaller line does.
pub record IsUnfitAt (s : Scenario) (script : Stmts) (budget : ℕ) (o : Outline) (Unfit : Place → Type 0) (line : ℕ) : Type 0 where
  pub within : cost_of_all script ≤ budget
  pub sound : IsSound s script o
  pub place : Place
  pub listed : Contains (places_of script) place
  pub here : place.line ≡ line
  pub unfit : Unfit place
  pub first : (p : Place) → Contains (places_of script) p → p.line < line → FitsAt s o p

-- ---- the first reason

-- The budget comes first, then whether the outline is sound, then the places by line, and at each the role before the arms.
abbrev pub IsRefusal : Scenario → Stmts → ℕ → Outline → Refusal → Type 0
IsRefusal s script budget o (OverBudget host cost) =
    (host ≡ o.host) × (budget < cost_of_all script) × (cost ≡ min past_budgets (cost_of_all script))
IsRefusal s script budget o (NotSound host line) =
    (host ≡ o.host) × (cost_of_all script ≤ budget) × (DiffersAt script o line ⊎ LacksFirst s script o line)
IsRefusal s script budget o (OutOfRole host line) =
    (host ≡ o.host) × IsUnfitAt s script budget o (BreaksRole s o) line
IsRefusal s script budget o (NoArm host line class) =
    (host ≡ o.host) × IsUnfitAt s script budget o (λ p. KeepsToRole s o p × LacksArmFirst s o p class) line
IsRefusal s script budget o Memory = Unit {0}
