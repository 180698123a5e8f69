-- Clauses that compare equal are the same.
use Rattle.pr_roles.proofs.Common.{◌≡◌, true, ap, ◌∙◌, and_parts, Option, rules}
use Rattle.std.specs.Option.{option_eq}
use Rattle.pr_roles.specs.declared.role.Clause.{Clause}
use Rattle.pr_roles.specs.declared.role.Action.{Action}
use Rattle.pr_roles.specs.declared.role.Condition.{Condition}
use Rattle.pr_roles.specs.contracts.role.ActionPartialEq.TheImpl as action
use Rattle.pr_roles.specs.contracts.role.ConditionPartialEq.TheImpl as condition
use Rattle.pr_roles.specs.contracts.role.ClausePartialEq.TheImpl as clause

same_action : (a b : Action) → action.eq-value.it a b ≡ true → a ≡ b
same_action a b h = search rules

same_condition : (x y : Option Condition) → option_eq condition.eq-value.it x y ≡ true → x ≡ y
same_condition x y h = search rules

pub same_clause : (a b : Clause) → clause.eq-value.it a b ≡ true → a ≡ b
same_clause a b h =
    let parts = and_parts (action.eq-value.it a.action b.action) (option_eq condition.eq-value.it a.condition b.condition) h in
    ap (λ x. record { action = x; condition = a.condition }) (same_action a.action b.action parts.0)
    ∙ ap (λ x. record { action = b.action; condition = x }) (same_condition a.condition b.condition parts.1)
