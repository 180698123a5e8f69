use Rattle.pr_commands.proofs.Common.{codes, front_first, front_then, puts_err, puts_last}
use Rattle.std.specs.FinSet as set
use Rattle.pr_commands.specs.WitnessText.{code_words}
use Rattle.pr_commands.proofs.witness_text.put_some_pending.Goals as goal

pub returns-in_err-put : goal.returns-in_err-put
returns-in_err-put g c = puts_err _ _ _ _ (front_first _ _ (codes "pending ") _ c.in_err-put.ensures) c.from_residual.ensures.0

pub returns-in_err-put-2 : goal.returns-in_err-put-2
returns-in_err-put-2 g c =
    puts_err _ _ _ _ (front_then _ _ _ (codes "pending ") _ c.in_ok-put.ensures (front_first _ _ c.args.name.now _ c.in_err-put-2.ensures)) c.from_residual-in_err-put-2.ensures.0

pub returns-in_err-put_codes : goal.returns-in_err-put_codes
returns-in_err-put_codes g c =
    puts_err _ _ _ _ (front_then _ _ _ (codes "pending ") _ c.in_ok-put.ensures (front_then _ _ _ c.args.name.now _ c.in_ok-put-2.ensures
    (front_first _ _ (code_words (set.contains c.args.pending.now)) _ c.in_err-put_codes.ensures))) c.from_residual-in_err-put_codes.ensures.0

pub returns : goal.returns
returns g c =
    puts_last _ _ _ (codes "pending ") _ _ c.in_ok-put.ensures (puts_last _ _ _ c.args.name.now _ _ c.in_ok-put-2.ensures
    (puts_last _ _ _ (code_words (set.contains c.args.pending.now)) _ _ c.in_ok-put_codes.ensures c.put-3.ensures))
