use Rattle.pr_lines.proofs.Common.{◌+◌, ◌*◌, ◌^◌, ◌<◌, length, arith}
use Rattle.pr_lines.proofs.lemmas.WordTerms.NumberRoom.{digit_fits}
use Rattle.pr_lines.proofs.terms.number.Goals as goal

fits : (c : goal.Else-digit_value-base) → c.args.base * c.loop-digit.value + c.from-digit_value.result < 2 ^ 64
fits c = digit_fits c.args.base c.loop-digit.value c.from-digit_value.result c.loop-digit.digit-index (length c.args.digits.now) (2 ^ 64) c.loop-digit.invariant.2 c.if-digit_value-base.false c.loop-digit-test.true c.requires

pub overflow_mul-value : goal.overflow_mul-value
overflow_mul-value c = omega (arith, fits c)

pub overflow_add-value : goal.overflow_add-value
overflow_add-value c = omega (arith, fits c)
