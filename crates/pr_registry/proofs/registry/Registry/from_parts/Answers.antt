use Rattle.pr_registry.proofs.Common.{◌≤◌, length, sym, refl, ◌∙◌, subst, arith, false≢true, nat_tests, IsWellFormed}
use Rattle.pr_registry.specs.Registrations.{HasHolder}
use Rattle.pr_registry.specs.Tables.{state_from}
use Rattle.pr_registry.proofs.lemmas.States.{are_keys-from, well_formed-from}
use Rattle.pr_registry.proofs.registry.Registry.from_parts.Goals as goal

pub returns-then-not-are_keys-clause-exactly : goal.returns-then-not-are_keys-clause-exactly
returns-then-not-are_keys-clause-exactly c = (
  λ e. absurd (false≢true e),
  λ w. sym c.if-not-are_keys.true ∙ c.are_keys.ensures.1 (are_keys-from c.args.keys.now c.args.held c.args.generation w),
)

is_well_formed : (c : goal.Else-not-has_holder) → IsWellFormed (state_from c.args.keys.now c.args.held c.args.generation)
is_well_formed c =
    let some : 1 ≤ length c.args.keys.now = grind (arith, nat_tests) in
    let has = subst (λ keys. HasHolder keys c.args.held) c.slots_of-slots.ensures (c.has_holder.ensures.0 c.if-not-has_holder.false) in
    well_formed-from c.args.keys.now c.args.held c.args.generation some c.if-keys-gt-MOST_NEXUSES.false
    (c.are_keys.ensures.0 c.if-not-are_keys.false) has (omega arith)

pub invariant_of-result : goal.invariant_of-result
invariant_of-result c =
    subst (λ keys. IsWellFormed (record { hosts = length c.args.keys.now; keys = keys; held = c.args.held; generation = c.args.generation }))
    (sym c.slots_of-slots.ensures) (is_well_formed c)

pub returns-clause-exactly : goal.returns-clause-exactly
returns-clause-exactly c = (λ _. is_well_formed c, λ _. refl)
