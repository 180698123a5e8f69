use Rattle.pr_commands.proofs.Common.{names_of, front_first, puts_err, puts_last}
use Rattle.pr_commands.specs.EndsText.{end_parts}
use Rattle.pr_commands.proofs.ends_text.put_ends.Goals as goal

pub returns-in_err-put_parts : goal.returns-in_err-put_parts
returns-in_err-put_parts g c = puts_err _ _ _ _ (front_first _ _ (end_parts (names_of c.args.nexuses.now) c.args.ends.now) _ c.in_err-put_parts.ensures) c.from_residual.ensures.0

pub returns : goal.returns
returns g c = puts_last _ _ _ (end_parts (names_of c.args.nexuses.now) c.args.ends.now) _ _ c.in_ok-put_parts.ensures c.put_after.ensures
