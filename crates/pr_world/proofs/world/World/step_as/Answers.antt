use Rattle.pr_world.proofs.Common.{◌<◌, List, [], ◌∷◌, ◌++◌, length, sym, ap, subst, scenario_of, Turn, Step, IsReached, schedule_of}
use Rattle.pr_roles.specs.declared.step.Step.TheVariants as step
use Rattle.pr_world.proofs.lemmas.StepAnswers.Turns.{is_turned, never_trapped, said_done, said_held, said_stopped, step_has_room, still_at_work}
use Rattle.pr_world.proofs.world.World.step_as.Goals as goal
use Rattle.pr_world.proofs.world.World.step_as.Goals.{in-Sent, in-Stopped, in-Finished, in-Held}

pub turn-requires-clause-room : goal.turn-requires-clause-room
turn-requires-clause-room c =
    step_has_room _ _ _ _ _ c.scenario.ensures.value c.scenario.ensures.safe c.self.invariant
    (subst (λ r. c.args.host < length (scenario_of r).nexuses) (sym (ap (λ w. w.scenario) c.self.view_is)) c.requires)

pub unreachable-requires : goal.unreachable-requires
unreachable-requires c = never_trapped _ _ _ c.scenario.ensures.safe c.self.invariant (c.turn.ensures.trapped c.in-Trapped.is)

pub invariant_of-self : goal.invariant_of-self
invariant_of-self c = still_at_work _ _ _ _ _ c.scenario.ensures.value c.self.invariant c.turn.ensures.reached c.turn.ensures.stands c.turn.ensures.room

pub returns-clause-turn : goal.returns-clause-turn
returns-clause-turn c =
    rw (← c.self.view_is)
    (subst (λ r. Turn (scenario_of r) (schedule_of c.self.inside.course) c.args.host c.args.how (schedule_of c.turn.new.self)) c.scenario.ensures.value c.turn.ensures.turn)

pub returns-clause-reached : goal.returns-clause-reached
returns-clause-reached c =
    rw (← c.self.view_is)
    (subst (λ r. (steps : List Step) → IsReached (scenario_of r) steps (schedule_of c.self.inside.course) → IsReached (scenario_of r) (steps ++ step.Of c.args.host c.args.how ∷ []) (schedule_of c.turn.new.self))
    c.scenario.ensures.value c.turn.ensures.reached)

pub returns-clause-stopped : goal.returns-clause-stopped
returns-clause-stopped c =
    let there = subst (λ r. c.args.host < length (scenario_of r).nexuses) (sym (ap (λ w. w.scenario) c.self.view_is)) c.requires in
    let turned = is_turned c.args.how _ _ c.self.inside.course c.turn.new.self _ _ c.scenario.ensures.value c.self.invariant there c.turn.ensures.does c.turn.ensures.turn c.turn.ensures.happens in
    rw (← c.self.view_is)
    (elim c.match-turn.branch [
      | in-Sent w ↦ rw w.result-is tt
      | in-Stopped w ↦ (said_stopped _ _ c.self.inside.course c.turn.new.self _ _ _ _ turned w.in-Stopped.is w.result-is).0
      | in-Finished w ↦ (said_done _ _ c.self.inside.course c.turn.new.self _ _ _ _ turned w.in-Finished.is w.result-is w.end_word.ensures).0
      | in-Held w ↦ rw w.result-is tt
    ])

pub returns-clause-rests : goal.returns-clause-rests
returns-clause-rests c =
    let there = subst (λ r. c.args.host < length (scenario_of r).nexuses) (sym (ap (λ w. w.scenario) c.self.view_is)) c.requires in
    let turned = is_turned c.args.how _ _ c.self.inside.course c.turn.new.self _ _ c.scenario.ensures.value c.self.invariant there c.turn.ensures.does c.turn.ensures.turn c.turn.ensures.happens in
    rw (← c.self.view_is)
    (elim c.match-turn.branch [
      | in-Sent w ↦ rw w.result-is tt
      | in-Stopped w ↦ (said_stopped _ _ c.self.inside.course c.turn.new.self _ _ _ _ turned w.in-Stopped.is w.result-is).1
      | in-Finished w ↦ (said_done _ _ c.self.inside.course c.turn.new.self _ _ _ _ turned w.in-Finished.is w.result-is w.end_word.ensures).1
      | in-Held w ↦ rw w.result-is tt
    ])

pub returns-clause-held : goal.returns-clause-held
returns-clause-held c =
    let there = subst (λ r. c.args.host < length (scenario_of r).nexuses) (sym (ap (λ w. w.scenario) c.self.view_is)) c.requires in
    let turned = is_turned c.args.how _ _ c.self.inside.course c.turn.new.self _ _ c.scenario.ensures.value c.self.invariant there c.turn.ensures.does c.turn.ensures.turn c.turn.ensures.happens in
    rw (← c.self.view_is)
    (elim c.match-turn.branch [
      | in-Sent w ↦ rw w.result-is tt
      | in-Stopped w ↦ rw w.result-is tt
      | in-Finished w ↦ rw w.result-is tt
      | in-Held w ↦ said_held _ _ c.self.inside.course c.turn.new.self _ _ _ turned w.in-Held.is w.result-is
    ])
