use Rattle.pr_registry.proofs.Common.{sym, ap, ◌∙◌, subst, IsWellFormed, state_of}
use Rattle.pr_registry.specs.Effects.{without_registration}
use Rattle.pr_registry.proofs.lemmas.States.{state_of-unregistered, well_formed-unregistered}
use Rattle.pr_registry.proofs.registry.Registry.unregister.Goals as goal

pub invariant_of-self : goal.invariant_of-self
invariant_of-self c =
    let s = c.self.inside in
    let is = state_of-unregistered s.hosts s.slots c.remove.new.slots s.held c.held_after_unregister-self-inside.result s.generation c.next-self-inside.result c.args.host c.remove.ensures c.held_after_unregister-self-inside.ensures c.next-self-inside.ensures in
    subst IsWellFormed (sym is) (well_formed-unregistered (state_of s.hosts s.slots s.held s.generation) c.args.host c.self.invariant)

pub returns-clause-state : goal.returns-clause-state
returns-clause-state c =
    let s = c.self.inside in
    state_of-unregistered s.hosts s.slots c.remove.new.slots s.held c.held_after_unregister-self-inside.result s.generation c.next-self-inside.result c.args.host c.remove.ensures c.held_after_unregister-self-inside.ensures c.next-self-inside.ensures
    ∙ ap (λ u. without_registration u c.args.host) c.self.view_is
