-- Two lists of clauses are equal where each two clauses are.
use Rattle.pr_roles.proofs.Common.{◌≡◌, true, subst, rules, slice_eq-Decides}
use Rattle.pr_roles.specs.declared.role.Clause.{Clause}
use Rattle.pr_roles.specs.contracts.role.ClausePartialEq.TheImpl as clause
use Rattle.pr_roles.proofs.lemmas.Clauses.{same_clause}
use Rattle.pr_roles.proofs.copying.same_clauses.Goals as goal

itself : (a : Clause) → clause.eq-value.it a a ≡ true
itself a = search rules

pub returns : goal.returns
returns c = slice_eq-Decides (λ a b. (same_clause a b, λ e. subst (λ x. clause.eq-value.it a x ≡ true) e (itself a))) _ _ c.eq.result c.eq.ensures
