use Rattle.pr_registry.proofs.Common.{◌<◌, sym, ap, ◌∙◌, subst, arith, State, IsWellFormed, state_of}
use Rattle.pr_registry.specs.Registrations.{IsKey}
use Rattle.pr_registry.specs.Effects.{with_registration}
use Rattle.pr_registry.proofs.lemmas.States.{state_of-registered, well_formed-registered}
use Rattle.pr_registry.proofs.registry.Registry.register.Goals as goal

pub invariant_of-self : goal.invariant_of-self
invariant_of-self c =
    let s = c.self.inside in
    let same = ap (λ (u : State). u.hosts) c.self.view_is in
    let there : c.args.host < s.hosts = omega arith in
    let key : IsKey c.args.key = (c.requires.key, omega arith) in
    let is = state_of-registered s.hosts s.slots c.insert.new.slots s.held s.generation c.next-self-inside.result c.args.host c.args.key c.insert.ensures c.next-self-inside.ensures in
    subst IsWellFormed (sym is) (well_formed-registered (state_of s.hosts s.slots s.held s.generation) c.args.host c.args.key c.self.invariant there key)

pub returns-clause-state : goal.returns-clause-state
returns-clause-state c =
    let s = c.self.inside in
    state_of-registered s.hosts s.slots c.insert.new.slots s.held s.generation c.next-self-inside.result c.args.host c.args.key c.insert.ensures c.next-self-inside.ensures
    ∙ ap (λ u. with_registration u c.args.host c.args.key) c.self.view_is
