use Rattle.pr_report.proofs.Common.{[], ◌∷◌, map, codes, printed_word, front_first, front_then, puts_err, puts_last}
use Rattle.pr_report.proofs.lemmas.WordsWritten.Possibilities.{line_pieces, puts_as}
use Rattle.pr_report.proofs.outline.put_item.Goals as goal

pub returns-in_err-begin_item : goal.returns-in_err-begin_item
unfolding printed_word
returns-in_err-begin_item g c =
    puts_as _ _ _ _ _ (line_pieces (codes " ") (c.args.first.now ∷ []) (map printed_word c.args.others.now))
    (puts_err _ _ _ _ (front_first _ _ _ _ c.in_err-begin_item.ensures) c.from_residual.ensures.0)

pub returns-in_err-put_spaced : goal.returns-in_err-put_spaced
unfolding printed_word
returns-in_err-put_spaced g c =
    let f = front_first _ _ _ _ c.in_err-put_spaced.ensures in
    puts_as _ _ _ _ _ (line_pieces (codes " ") (c.args.first.now ∷ []) (map printed_word c.args.others.now))
    (puts_err _ _ _ _ (front_then _ _ _ _ _ c.in_ok-begin_item.ensures f) c.from_residual-in_err-put_spaced.ensures.0)

pub returns : goal.returns
unfolding printed_word
returns g c =
    puts_as _ _ _ _ _ (line_pieces (codes " ") (c.args.first.now ∷ []) (map printed_word c.args.others.now))
    (puts_last _ _ _ _ _ _ c.in_ok-begin_item.ensures (puts_last _ _ _ _ _ _ c.in_ok-put_spaced.ensures c.put.ensures))
