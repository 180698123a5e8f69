use Rattle.pr_lines.proofs.Common.{◌≡◌, digit_value}
use Rattle.std.proofs.Common.{get_or}
use Rattle.pr_lines.proofs.lemmas.WordTerms.NumberRoom.{none_past}
use Rattle.pr_lines.proofs.terms.amount_of.Goals as goal

pub returns-then-value-most-clause-value : goal.returns-then-value-most-clause-value
returns-then-value-most-clause-value c =
    let e : c.from-digit_value.result ≡ digit_value (get_or c.args.word.now c.loop-digit.digit-index 0) = cc in
    none_past c.args.most c.loop-digit.digit-index c.loop-digit.value c.args.word.now c.loop-digit.invariant.0 c.loop-digit-test.true (rw (← e) c.if-value-most.true)
