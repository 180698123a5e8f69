use Rattle.pr_commands.proofs.Common.{front_first, puts_err, puts_last}
use Rattle.pr_commands.proofs.never_text.put_word.Goals as goal

pub returns-in_err-put : goal.returns-in_err-put
returns-in_err-put g c = puts_err _ _ _ _ (front_first _ _ c.args.word.now _ c.in_err-put.ensures) c.from_residual.ensures.0

pub returns : goal.returns
returns g c = puts_last _ _ _ c.args.word.now _ _ c.in_ok-put.ensures c.put-2.ensures
