use Rattle.pr_roles.proofs.Common.{◌≡◌, true, subst, rules, slice_eq-Decides, Command}
use Rattle.pr_cdb.specs.contracts.command.CommandPartialEq.TheImpl as command
use Rattle.pr_roles.proofs.copying.same_commands.Goals as goal

same : (a b : Command) → command.eq-value.it a b ≡ true → a ≡ b
same a b h = search rules

itself : (a : Command) → command.eq-value.it a a ≡ true
itself a = search rules

pub returns : goal.returns
returns c = slice_eq-Decides (λ a b. (same a b, λ e. subst (λ x. command.eq-value.it a x ≡ true) e (itself a))) _ _ c.eq.result c.eq.ensures
