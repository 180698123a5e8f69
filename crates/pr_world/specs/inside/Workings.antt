-- A scenario at work, as it is kept.
use Rattle.std.specs.Prelude.{◌≡◌, ℕ, ◌+◌, ◌<◌, IsTrue, List, map, vec_len, vec_capacity, sum}
use Rattle.pr_roles.specs.declared.how.How.{How}
use Rattle.pr_roles.specs.declared.parts.Parts.{Parts}
use Rattle.pr_roles.specs.declared.step.Step.{Step}
use Rattle.pr_roles.specs.Scenarios.{Scenario, scenario_of}
use Rattle.pr_roles.specs.Worlds.{control, is_trapped}
use Rattle.pr_world.specs.declared.act.Act.{Act}
use Rattle.pr_world.specs.declared.course.Course.{Course}
use Rattle.pr_world.specs.Courses.{IsReached}
use Rattle.pr_world.specs.Progress.{Progress, Extends, TakesStep}
use Rattle.pr_world.specs.Rooms.{room_of}
use Rattle.pr_world.specs.inside.Participations.{HappensBy, StandsFor, schedule_of, participation_of}
use Rattle.pr_world.specs.inside.Turns.{Doing, does, entry_in}

-- ---- a course, whoever keeps it

-- how far a course of this scenario has come
abbrev pub progress_of : Parts → Course → Progress
progress_of p c = record { scenario = p; schedule = schedule_of c }

-- The course is one of this scenario: there is one nexus for each that the scenario declares, and just the guests have plans.
abbrev pub IsCourseOf : Parts → Course → Type 0
IsCourseOf p c = StandsFor (scenario_of p) c.unit (map participation_of c.participants.items)

-- nothing has happened yet, and there is room for so many items
abbrev pub IsEmptyFor : ℕ → Course → Type 0
IsEmptyFor room c = (vec_len c.history ≡ 0) × (vec_capacity c.history ≡ room)

-- there is room for one item more
abbrev pub HasRoom : Course → Type 0
HasRoom c = vec_len c.history < vec_capacity c.history

-- what h does, if this is its turn, and it is to be answered so
abbrev pub course_does : Parts → Course → ℕ → How → Doing
course_does p c h how = does (scenario_of p) (schedule_of c) h how

-- h is trapped
abbrev pub IsTrappedIn : Course → ℕ → Type 0
IsTrappedIn c h = IsTrue (is_trapped (control (schedule_of c).world h))

-- the step leads from one to the other
abbrev pub CourseTakes : Parts → Step → Course → Course → Type 0
CourseTakes p step c d = TakesStep step (progress_of p c) (progress_of p d)

-- whatever steps led to the one from the first start, they and this step led to the other
abbrev pub CourseExtends : Parts → Step → Course → Course → Type 0
CourseExtends p step c d = Extends step (progress_of p c) (progress_of p d)

-- what h did is one event, which leads from one to the other, where it sent an entry; else the world is as it was
abbrev pub CourseHappens : Parts → ℕ → Act → Course → Course → Type 0
CourseHappens p h did c d = HappensBy (scenario_of p) h (entry_in did) (schedule_of c).world (schedule_of d).world

-- ---- a verified scenario

-- the commands of all together
abbrev pub commands_of : Scenario → ℕ
commands_of s = sum (map (λ n. room_of n.task) s.nexuses)

-- and the resets besides
abbrev pub rooms : Scenario → ℕ
rooms s = commands_of s + s.resets

-- Some steps led here from the first start. There is one nexus for each that the scenario declares, and room for
-- every command that can reach the unit and for every reset.
pub record IsAtWork (s : Scenario) (c : Course) : Type 0 where
  pub steps : List Step
  pub reached : IsReached s steps (schedule_of c)
  pub stands : StandsFor s c.unit (map participation_of c.participants.items)
  pub room : vec_capacity c.history ≡ rooms s
