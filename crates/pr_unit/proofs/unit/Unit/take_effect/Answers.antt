-- A command that neither conflicts nor is at fault leaves a well formed state well formed.
use Rattle.pr_unit.proofs.Common.{◌≡◌, ◌<◌, false, None, sym, subst, command_conflicts, command_fault, UnitState, IsWellFormed, unit_of}
use Rattle.pr_unit.proofs.lemmas.UnitStates.Effects.{effects_are_well_formed}
use Rattle.pr_unit.proofs.unit.Unit.take_effect.Goals as goal

pub invariant_of-self : goal.invariant_of-self
invariant_of-self c =
    let u = unit_of c.self.inside.registry c.self.inside.pending in
    subst IsWellFormed (sym c.take_effect.ensures)
    (effects_are_well_formed u c.args.host c.args.command.now c.self.invariant
    (subst (λ (s : UnitState). c.args.host < s.registry.hosts) (sym c.self.view_is) c.requires.there)
    c.in_range.ensures
    (subst (λ (s : UnitState). command_conflicts s.registry c.args.host c.args.command.now ≡ false) (sym c.self.view_is) c.requires.free)
    (subst (λ (s : UnitState). command_fault s.registry c.args.host c.args.command.now ≡ None) (sym c.self.view_is) c.requires.whole))
