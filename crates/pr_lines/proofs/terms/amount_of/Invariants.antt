use Rattle.pr_lines.proofs.Common.{◌≡◌, ◌+◌, ◌*◌, ◌≤◌, true, take, nat_lt, fold, list_all, digit_value}
use Rattle.pr_lines.proofs.terms.amount_of.Given as goal

abbrev pub invariant-loop-digit : goal.invariant-loop-digit
invariant-loop-digit l =
    (l.value ≡ fold (λ n b. 10 * n + digit_value b) 0 (take l.digit-index l.word))
    × (list_all (λ b. nat_lt (digit_value b) 10) (take l.digit-index l.word) ≡ true)
    × (l.value ≤ l.most)
