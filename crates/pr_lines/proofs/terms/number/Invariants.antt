use Rattle.pr_lines.proofs.Common.{◌≡◌, ◌+◌, ◌*◌, ◌^◌, ◌<◌, true, take, nat_lt, fold, list_all, digit_value}
use Rattle.pr_lines.proofs.terms.number.Given as goal

abbrev pub invariant-loop-digit : goal.invariant-loop-digit
invariant-loop-digit l =
    (l.value ≡ fold (λ n b. l.base * n + digit_value b) 0 (take l.digit-index l.digits))
    × (list_all (λ b. nat_lt (digit_value b) l.base) (take l.digit-index l.digits) ≡ true)
    × (l.value < l.base ^ l.digit-index)
