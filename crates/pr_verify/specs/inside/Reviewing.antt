-- What is found at the sends of a script, one after another.
use Rattle.std.specs.Prelude.{◌≡◌, ℕ, ◌<◌, ◌≤◌, min, true, List, length, map, Option, Some, None, IfSome}
use Rattle.std.specs.List.{All, Contains}
use Rattle.pr_script.specs.Grammar.{script_fits}
use Rattle.pr_script.specs.Costs.{cost_of_all}
use Rattle.pr_script.specs.Scripts.{Stmts}
use Rattle.pr_script.specs.Trees.{script_of}
use Rattle.pr_script.specs.declared.script.Script.{Script}
use Rattle.pr_script.specs.declared.landing.Landing.{Landing}
use Rattle.pr_script.specs.declared.landing.Landing.TheVariants as landing
use Rattle.pr_script.specs.declared.landing.Class.{Class}
use Rattle.pr_roles.specs.Scenarios.{Scenario, scenario_of}
use Rattle.pr_roles.specs.declared.parts.Parts.{Parts}
use Rattle.pr_verify.specs.inside.Kept.{KeptOutline, KeptView}
use Rattle.pr_verify.specs.declared.places.Spot.{Spot}
use Rattle.pr_roles.specs.declared.refusal.Refusal.{Refusal}
use Rattle.pr_roles.specs.declared.refusal.Refusal.TheVariants.{NoArm, OutOfRole, OverBudget, Memory, NotSound}
use Rattle.pr_verify.specs.Places.{Place}
use Rattle.pr_views.specs.Tables.{Outline, outline_of}
use Rattle.pr_verify.specs.Outlines.{KeepsToRole, IsSound, IsFitting}
use Rattle.pr_verify.specs.Refusals.{class_number, past_budgets, IsRefusal, FitsAt, BreaksRole, LacksArmFirst}
use Rattle.pr_verify.specs.Rooms.{IsMadeFor}
use Rattle.pr_verify.specs.inside.Listing.{place_of}

-- the views can be ones of this scenario, the host is one of its nexuses, and the script can stand in a text with its keys
pub record CanCheck (s : Scenario) (script : Stmts) (o : KeptOutline) : Type 0 where
  pub host : o.host < length s.nexuses
  pub written : script_fits s.keys script ≡ true
  pub made : IsMadeFor s o

-- ---- a script and an outline, as the program has them

abbrev pub IsSoundBy : Parts → Script → KeptOutline → Type 0
IsSoundBy p script o = IsSound (scenario_of p) (script_of script) (outline_of o)

-- the outline fits by each budget that the script is within
abbrev pub FitsAnyBudget : Parts → Script → KeptOutline → Type 0
FitsAnyBudget p script o = (budget : ℕ) → cost_of_all (script_of script) ≤ budget → IsFitting (scenario_of p) (script_of script) budget (outline_of o)

-- by each such budget this is the first reason against it
abbrev pub IsRefusedBy : Parts → Script → KeptOutline → Refusal → Type 0
IsRefusedBy p script o refusal = (budget : ℕ) → cost_of_all (script_of script) ≤ budget → IsRefusal (scenario_of p) (script_of script) budget (outline_of o) refusal

-- the script costs more than the budget, and the refusal says what
abbrev pub IsOver : Script → ℕ → ℕ → Refusal → Type 0
IsOver script budget host refusal = (budget < cost_of_all (script_of script)) × (refusal ≡ OverBudget host (min past_budgets (cost_of_all (script_of script))))

-- ---- a place that does not fit

-- the place does not fit in the way that the refusal says
abbrev pub IsReason : Scenario → Outline → Place → Refusal → Type 0
IsReason s o p (NoArm host line class) = (host ≡ o.host) × (line ≡ p.line) × KeepsToRole s o p × LacksArmFirst s o p class
IsReason s o p (OutOfRole host line) = (host ≡ o.host) × (line ≡ p.line) × BreaksRole s o p
IsReason s o p (OverBudget host cost) = ⊥
IsReason s o p Memory = ⊥
IsReason s o p (NotSound host line) = ⊥

-- the place fits, or this is how it does not
abbrev pub IsMisfit : Scenario → Outline → Place → Option Refusal → Type 0
IsMisfit s o p None = FitsAt s o p
IsMisfit s o p (Some refusal) = IsReason s o p refusal

-- the first of the sends that does not fit, and how it does not
pub record HasMisfit (s : Scenario) (o : Outline) (spots : List Spot) (refusal : Refusal) : Type 0 where
  pub spot : Spot
  pub there : Contains spots spot
  pub reason : IsReason s o (place_of spot) refusal
  pub first : (p : Spot) → Contains spots p → p.line < spot.line → FitsAt s o (place_of p)

-- or each of them fits
abbrev pub IsFirstMisfit : Scenario → Outline → List Spot → Option Refusal → Type 0
IsFirstMisfit s o spots None = All (λ p. FitsAt s o (place_of p)) spots
IsFirstMisfit s o spots (Some refusal) = HasMisfit s o spots refusal

-- ---- classes without an arm

-- there is one that comes no later than this
abbrev pub IsBy : Option Class → Class → Type 0
IsBy None class = ⊥
IsBy (Some first) class = class_number first ≤ class_number class

-- of the classes of replies without an arm that have this number or a greater one, the first, if there is one
abbrev pub IsFirstUnarmed : ℕ → List (Landing × KeptView) → Option Class → Type 0
IsFirstUnarmed from outcomes first =
    All (λ o. (class : Class) → o.0 ≡ landing.NoArm class → from ≤ class_number class → IsBy first class) outcomes
    × IfSome first (λ class. Contains (map (λ o. o.0) outcomes) (landing.NoArm class) × (from ≤ class_number class))
