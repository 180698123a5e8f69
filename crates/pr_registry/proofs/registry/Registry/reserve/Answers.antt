use Rattle.pr_registry.proofs.Common.{not, IsTrue, sym, ap, ◌∙◌, subst, is_registered, IsWellFormed, state_of}
use Rattle.pr_registry.proofs.lemmas.States.{state_of-reserved, well_formed-reserved}
use Rattle.pr_registry.proofs.registry.Registry.reserve.Goals as goal

pub invariant_of-self : goal.invariant_of-self
invariant_of-self c =
    let s = c.self.inside in
    let free = c.is_none.ensures ∙ ap not c.if-is_none.true in
    let is = state_of-reserved s.hosts s.slots s.held c.new_reservation.result s.generation c.args.host c.args.kind free c.new_reservation.ensures in
    let there = subst (λ u. IsTrue (is_registered u c.args.host)) (sym c.self.view_is) c.requires.there in
    subst IsWellFormed (sym is) (well_formed-reserved (state_of s.hosts s.slots s.held s.generation) c.args.host c.args.kind c.self.invariant there)
