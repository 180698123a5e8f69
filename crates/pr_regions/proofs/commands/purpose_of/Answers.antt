use Rattle.pr_regions.proofs.Common.{◌≡◌, ℕ, ◌≤◌, true, List, refl, sym, ◌∙◌, subst, number_in, MOST_KEYS, Some, option_map_or, Command, is_declared}
use Rattle.pr_unit.specs.declared.demand.Demand.TheVariants.{Register, Preempt}
use Rattle.pr_unit.specs.Demands.{Asked, demand_of}
use Rattle.pr_unit.specs.NamedKeys.{named}
use Rattle.pr_regions.specs.Purposes.{names_declared}
use Rattle.pr_regions.proofs.lemmas.Purposes.Conduct.{declared_number}
use Rattle.pr_regions.proofs.commands.purpose_of.Goals as goal

-- the number of the key that it names
numbers : (keys : List ℕ) (o : Asked) (key n : ℕ) (c : Command) → demand_of c ≡ o → named o ≡ Some key → names_declared keys c ≡ true → n ≡ number_in keys key → n ≤ MOST_KEYS → (1 ≤ n) × (n ≤ MOST_KEYS)
numbers keys o key n c is names declared number most =
    let known : option_map_or (is_declared keys) (named o) true ≡ true = subst (λ (x : Asked). option_map_or (is_declared keys) (named x) true ≡ true) is declared in
    (subst (λ x. 1 ≤ x) (sym number) (declared_number keys key (subst (λ x. option_map_or (is_declared keys) x true ≡ true) names known)), most)

pub returns-in-Register-clause-number : goal.returns-in-Register-clause-number
returns-in-Register-clause-number c declared =
    numbers c.args.keys.now (Register c.in-Register.key) c.in-Register.key c.number_in.result c.args.command (sym c.demand_of.ensures ∙ c.in-Register.is) refl declared c.number_in.ensures.number c.number_in.ensures.most

pub returns-in-Preempt-default-Some-clause-number : goal.returns-in-Preempt-default-Some-clause-number
returns-in-Preempt-default-Some-clause-number c declared =
    let it = c.in-Preempt-default-Some in
    let counted = c.number_in-in-Preempt-default-Some in
    numbers c.args.keys.now (Preempt it.key it.field-1) it.key counted.result c.args.command (sym c.demand_of.ensures ∙ it.is) refl declared counted.ensures.number counted.ensures.most
