use Rattle.pr_registry.proofs.Common.{IsTrue, sym, ap, ◌∙◌, subst, preempt_case, removed_by_preempt, is_registered, IsWellFormed, state_of}
use Rattle.pr_registry.specs.declared.change.Change.{Change}
use Rattle.pr_registry.specs.Premises.{HasKindIfReplacing}
use Rattle.pr_registry.specs.inside.Cases.{case_of}
use Rattle.pr_registry.proofs.lemmas.States.{state_of-preempted, well_formed-preempted}
use Rattle.pr_registry.proofs.registry.Registry.preempt.Goals as goal

pub invariant_of-self : goal.invariant_of-self
invariant_of-self c =
    let s = c.self.inside in
    let removed = ap (λ (change : Change). change.removed) c.change_on_preempt-change.ensures
    ∙ ap (λ u. removed_by_preempt u.keys c.args.host c.args.sark (preempt_case u.keys u.held c.args.sark)) (sym c.self.view_is) in
    let is =
    state_of-preempted s.hosts s.slots c.remove_all.new.slots s.held c.held_after_preempt-self-inside.result s.generation c.next-self-inside.result c.args.host c.args.sark c.args.kind
    (case_of c.preempt_case-case.result) c.change_on_preempt-change.result.removed c.preempt_case-case.ensures removed c.remove_all.ensures
    c.held_after_preempt-self-inside.ensures c.next-self-inside.ensures in
    let there = subst (λ u. IsTrue (is_registered u c.args.host)) (sym c.self.view_is) c.requires.there in
    let typed = subst (λ u. HasKindIfReplacing c.args.kind (preempt_case u.keys u.held c.args.sark)) (sym c.self.view_is) c.requires.typed in
    subst IsWellFormed (sym is)
    (well_formed-preempted (state_of s.hosts s.slots s.held s.generation) c.args.host c.args.sark c.args.kind c.self.invariant there typed)
