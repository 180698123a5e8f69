use Rattle.pr_commands.proofs.Common.{codes, front_first, front_then, puts_err, puts_last}
use Rattle.std.specs.Fmt.{decimal}
use Rattle.pr_commands.proofs.ends_text.put_trapped.Goals as goal

pub returns-in_err-put : goal.returns-in_err-put
returns-in_err-put g c = puts_err _ _ _ _ (front_first _ _ c.args.name.now _ c.in_err-put.ensures) c.from_residual.ensures.0

pub returns-in_err-put-2 : goal.returns-in_err-put-2
returns-in_err-put-2 g c =
    puts_err _ _ _ _ (front_then _ _ _ c.args.name.now _ c.in_ok-put.ensures (front_first _ _ (codes " trapped ") _ c.in_err-put-2.ensures)) c.from_residual-in_err-put-2.ensures.0

pub returns-in_err-put_number : goal.returns-in_err-put_number
returns-in_err-put_number g c =
    puts_err _ _ _ _ (front_then _ _ _ c.args.name.now _ c.in_ok-put.ensures (front_then _ _ _ (codes " trapped ") _ c.in_ok-put-2.ensures
    (front_first _ _ (decimal c.args.line) _ (rw c.from.ensures at c.in_err-put_number.ensures)))) c.from_residual-in_err-put_number.ensures.0

pub returns : goal.returns
returns g c =
    puts_last _ _ _ c.args.name.now _ _ c.in_ok-put.ensures (puts_last _ _ _ (codes " trapped ") _ _ c.in_ok-put-2.ensures
    (puts_last _ _ _ (decimal c.args.line) _ _ (rw c.from.ensures at c.in_ok-put_number.ensures) c.put-3.ensures))
