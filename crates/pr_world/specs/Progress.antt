-- Agrees with docs/MODEL.md, 'Worlds, events and runs'.
-- How far a scenario has come, and what leads on from there.
use Rattle.std.specs.Prelude.{ℕ, Bool, List, [], ◌∷◌, ◌++◌}
use Rattle.pr_roles.specs.declared.entry.Entry.{Entry}
use Rattle.pr_roles.specs.declared.parts.Parts.{Parts}
use Rattle.pr_roles.specs.declared.step.Step.{Step}
use Rattle.pr_roles.specs.Scenarios.{scenario_of}
use Rattle.pr_roles.specs.Schedules.{Schedule, Advances}
use Rattle.pr_roles.specs.Worlds.{IsReset, may_reset}
use Rattle.pr_world.specs.Courses.{IsOneEvent, IsReached}
use Rattle.pr_world.specs.StepAnswers.{IsStopped, PassesOver}

-- the scenario, and the world and the plans that its turns have led to
pub record Progress : Type 0 where
  pub scenario : Parts
  pub schedule : Schedule

-- Some steps led here, by a legal run, from the first start of the scenario.
abbrev pub IsLegalProgress : Progress → Type 0
IsLegalProgress p = (steps : List Step) × IsReached (scenario_of p.scenario) steps p.schedule

-- ---- from one to the next

-- the step, a turn or a reset, leads from one to the other
abbrev pub TakesStep : Step → Progress → Progress → Type 0
TakesStep step p q = Advances (scenario_of p.scenario) p.schedule step q.schedule

-- whatever steps led to the one from the first start, they and this step led to the other
abbrev pub Extends : Step → Progress → Progress → Type 0
Extends step p q =
    (steps : List Step) → IsReached (scenario_of p.scenario) steps p.schedule
    → IsReached (scenario_of p.scenario) (steps ++ step ∷ []) q.schedule

-- one event, the command of h with this entry, leads from one to the other
abbrev pub SendsEntry : ℕ → Progress → Progress → Entry → Type 0
SendsEntry h p q e = IsOneEvent (scenario_of p.scenario) h e p.schedule.world q.schedule.world

-- h is stopped there, with this word
abbrev pub IsStoppedIn : Progress → ℕ → List ℕ → Type 0
IsStoppedIn p h word = IsStopped (scenario_of p.scenario) p.schedule h word

-- the next command of the plan of h is passed over, which leads from one to the other
abbrev pub PassesCommand : ℕ → Progress → Progress → Type 0
PassesCommand h p q = PassesOver (scenario_of p.scenario) p.schedule h q.schedule

-- the scenario has a reset left
abbrev pub has_reset_left : Progress → Bool
has_reset_left p = may_reset (scenario_of p.scenario) p.schedule.world.history

-- one event, a reset of the unit, leads from one to the other
abbrev pub ResetsUnit : Progress → Progress → Type 0
ResetsUnit p q = IsReset (scenario_of p.scenario) p.schedule.world q.schedule.world
