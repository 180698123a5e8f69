use Rattle.pr_output.proofs.Common.{false, arith}
use Rattle.pr_output.proofs.lemmas.Written.Fronts.{front_first, puts_err, puts_last}
use Rattle.std.proofs.lemmas.Fmt.{hex_one_digit}
use Rattle.pr_output.proofs.lemmas.PrintedLines.KeyDigits.{digits_step}
use Rattle.pr_output.proofs.printing.+put_digits.Goals as goal

pub returns-then-number-lt16 : goal.returns-then-number-lt16
returns-then-number-lt16 g t c = rw (hex_one_digit false c.args.number c.if-number-lt16.true) (rw c.glyph.ensures at c.put.ensures)

pub returns-in_err-put_digits : goal.returns-in_err-put_digits
returns-in_err-put_digits g t c =
    puts_err _ _ _ _ (rw (digits_step c.args.number (omega arith) (omega arith)) (front_first _ _ _ _ c.in_err-put_digits.ensures)) c.from_residual.ensures.0

pub returns : goal.returns
returns g t c =
    rw (digits_step c.args.number (omega arith) (omega arith)) (puts_last _ _ _ _ _ _ c.in_ok-put_digits.ensures (rw c.glyph-2.ensures at c.put-2.ensures))
