use Rattle.pr_registry.proofs.Common.{sym, ap, ◌∙◌, subst, IsWellFormed, state_of}
use Rattle.pr_registry.specs.Effects.{after_clear}
use Rattle.pr_registry.proofs.lemmas.States.{state_of-cleared, well_formed-cleared}
use Rattle.pr_registry.proofs.registry.Registry.clear.Goals as goal

pub invariant_of-self : goal.invariant_of-self
invariant_of-self c =
    let s = c.self.inside in
    subst IsWellFormed (sym (state_of-cleared s.hosts s.slots s.held s.generation c.next-self-inside.result c.next-self-inside.ensures))
    (well_formed-cleared (state_of s.hosts s.slots s.held s.generation) c.self.invariant)

pub returns-clause-state : goal.returns-clause-state
returns-clause-state c =
    let s = c.self.inside in
    state_of-cleared s.hosts s.slots s.held s.generation c.next-self-inside.result c.next-self-inside.ensures ∙ ap after_clear c.self.view_is
