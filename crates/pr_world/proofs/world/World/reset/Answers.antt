use Rattle.pr_world.proofs.Common.{List, [], ◌∷◌, ◌++◌, subst, scenario_of, Step, IsReached, schedule_of}
use Rattle.pr_roles.specs.declared.step.Step.TheVariants as step
use Rattle.pr_world.proofs.lemmas.StepAnswers.Turns.{reset_finds_room, still_at_work}
use Rattle.pr_world.proofs.world.World.reset.Goals as goal

pub reset-requires-clause-room : goal.reset-requires-clause-room
reset-requires-clause-room c = reset_finds_room _ _ _ c.scenario.ensures.value c.scenario.ensures.safe c.self.invariant

pub invariant_of-self : goal.invariant_of-self
invariant_of-self c = still_at_work _ _ _ _ _ c.scenario.ensures.value c.self.invariant c.reset.ensures.reached c.reset.ensures.stands c.reset.ensures.room

pub returns-clause-reached : goal.returns-clause-reached
returns-clause-reached c =
    rw (← c.self.view_is)
    (subst (λ r. (steps : List Step) → IsReached (scenario_of r) steps (schedule_of c.self.inside.course) → IsReached (scenario_of r) (steps ++ step.Reset ∷ []) (schedule_of c.reset.new.self))
    c.scenario.ensures.value c.reset.ensures.reached)
