use Rattle.pr_output.proofs.Common.{line}
use Rattle.pr_output.proofs.lemmas.Written.Fronts.{front_first, front_then, puts_err, puts_last}
use Rattle.pr_output.proofs.printing.put_line.Goals as goal

pub returns-in_err-put_word : goal.returns-in_err-put_word
unfolding line
returns-in_err-put_word g c = puts_err _ _ _ _ (front_first _ _ _ _ c.in_err-put_word.ensures) c.from_residual.ensures.0

pub returns-in_err-put_spaced : goal.returns-in_err-put_spaced
unfolding line
returns-in_err-put_spaced g c =
    let f = front_first _ _ _ _ c.in_err-put_spaced.ensures in
    puts_err _ _ _ _ (front_then _ _ _ _ _ c.in_ok-put_word.ensures f) c.from_residual-in_err-put_spaced.ensures.0

pub returns : goal.returns
unfolding line
returns g c = puts_last _ _ _ _ _ _ c.in_ok-put_word.ensures (puts_last _ _ _ _ _ _ c.in_ok-put_spaced.ensures c.put.ensures)
