-- Agrees with docs/MODEL.md, 'Worlds, events and runs'.
-- Answers to a nexus on whose path somebody else may have been told of what was pending for it.
use Rattle.std.specs.Prelude.{ℕ, ◌<◌, Bool, true, false, IsTrue, List, length}
use Rattle.pr_cdb.specs.declared.reply.Reply.{Reply}
use Rattle.pr_cdb.specs.declared.wire.Request.{Request}
use Rattle.pr_unit.specs.UnitStates.{UnitState, IsWellFormed}
use Rattle.pr_unit.specs.Laws.{IsQuiet}
use Rattle.pr_unit.specs.SharedPaths.{IsFromLess}
use Rattle.pr_roles.specs.declared.how.How.{How}
use Rattle.pr_roles.specs.Answers.{Answers}
use Rattle.pr_roles.specs.Scenarios.{Scenario}
use Rattle.pr_roles.specs.Worlds.{World, Event, Run}

-- The request is answered so, where the path of h is shared, or is not: on a shared one from a state in which less may be pending.
abbrev pub AnswersOn : Bool → How → UnitState → ℕ → Request → Reply → UnitState → Type 0
AnswersOn true k u h q r v = IsFromLess (λ x y. Answers k x h q r y) u h v
AnswersOn false k u h q r v = Answers k u h q r v

-- On a shared path fetches lead to each state in which no more is pending for its nexus.
abbrev pub FetchesReachAll : Type 0
FetchesReachAll = (s : Scenario) (w : World) (h : ℕ) (u : UnitState) → h < length s.nexuses → IsTrue (s.shared h) → IsWellFormed w.unit → IsQuiet w.unit h u
    → (es : List Event) × Run s w es (record w { unit = u })
