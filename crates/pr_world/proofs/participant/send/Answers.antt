use Rattle.pr_world.proofs.Common.{ap, ◌∙◌, Plain, UnitState}
use Rattle.pr_unit.proofs.lemmas.Steps.WellFormedSteps.{hosts-step}
use Rattle.pr_world.proofs.lemmas.Courses.SpelledCommands.{executed, executed_early, hosts-taken_early}
use Rattle.pr_world.proofs.participant.send.Goals as goal
use Rattle.pr_world.proofs.participant.send.Goals.{in-Plain+in-Ok, in-Early+in-Ok-execute_early, in-Busy, in-Full}

pub returns-clause-hosts : goal.returns-clause-hosts
returns-clause-hosts c = elim c.match-how.branch [
  | in-Plain+in-Ok w ↦ ap (λ (u : UnitState). u.registry.hosts) w.unit-is ∙ hosts-step _ _ (Plain c.args.command) _ _ (executed _ _ _ _ _ _ c.encode-wire.ensures.read_again w.in-Ok.ensures).step
  | in-Early+in-Ok-execute_early w ↦ ap (λ (u : UnitState). u.registry.hosts) w.unit-is ∙ hosts-taken_early _ _ (Plain c.args.command) _ _ (executed_early _ _ _ _ _ _ c.encode-wire.ensures.read_again w.in-Ok-execute_early.ensures)
  | in-Busy w ↦ ap (λ (u : UnitState). u.registry.hosts) w.unit-is
  | in-Full w ↦ ap (λ (u : UnitState). u.registry.hosts) w.unit-is
]
