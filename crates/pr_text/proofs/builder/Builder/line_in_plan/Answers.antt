use Rattle.pr_text.proofs.Common.{refl, sym, declared_by}
use Rattle.pr_text.proofs.lemmas.LineFaults.Order.{plan_fails, planned}
use Rattle.pr_text.proofs.lemmas.Steps.Failures.{handed_on}
use Rattle.pr_text.proofs.builder.Builder.line_in_plan.Goals as goal

pub returns-in_err-commands-in-Command : goal.returns-in_err-commands-in-Command
returns-in_err-commands-in-Command c =
    rw c.in-Command.is (handed_on declared_by c.in_err-commands-in-Command.field-0.0 _ _ c.from_residual.ensures.1
    (plan_fails c.args.line c.args.guest c.args.commands.items c.in-Command.spelled (declared_by c.args.self) _ (rw (sym c.declared_keys.ensures) c.in_err-commands-in-Command.ensures)))

pub returns-in_ok-commands-in-Command : goal.returns-in_ok-commands-in-Command
returns-in_ok-commands-in-Command c =
    rw (c.in-Command.is, planned c.args.line c.args.guest c.args.commands.items c.in-Command.spelled (declared_by c.args.self), sym c.declared_keys.ensures, c.in_ok-commands-in-Command.ensures) refl
