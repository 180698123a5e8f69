use Rattle.pr_report.proofs.Common.{[], ◌∷◌, codes, printed_word, front_first, front_then, puts_err, puts_last}
use Rattle.std.proofs.Common.{decimal}
use Rattle.pr_report.specs.ScenarioWords.{command_words}
use Rattle.pr_report.specs.OutlineText.{send_line}
use Rattle.pr_report.proofs.lemmas.WordsWritten.Possibilities.{line_pieces}
use Rattle.pr_report.proofs.outline.put_command_line.Goals as goal

pub returns-in_err-put : goal.returns-in_err-put
unfolding printed_word send_line
returns-in_err-put g c =
    rw (line_pieces (codes "line") (decimal c.args.line ∷ codes "send" ∷ []) (command_words c.args.command))
    (puts_err _ _ _ _ (front_first _ _ _ _ c.in_err-put.ensures) c.from_residual.ensures.0)

pub returns-in_err-put_spaced : goal.returns-in_err-put_spaced
unfolding printed_word send_line
returns-in_err-put_spaced g c =
    let f = front_first _ _ _ _ (rw c.from.ensures at c.in_err-put_spaced.ensures) in
    rw (line_pieces (codes "line") (decimal c.args.line ∷ codes "send" ∷ []) (command_words c.args.command))
    (puts_err _ _ _ _ (front_then _ _ _ _ _ c.in_ok-put.ensures f) c.from_residual-in_err-put_spaced.ensures.0)

pub returns-in_err-put_command : goal.returns-in_err-put_command
unfolding printed_word send_line
returns-in_err-put_command g c =
    let f = front_first _ _ _ _ c.in_err-put_command.ensures in
    let h = front_then _ _ _ _ _ (rw c.from.ensures at c.in_ok-put_spaced.ensures) f in
    rw (line_pieces (codes "line") (decimal c.args.line ∷ codes "send" ∷ []) (command_words c.args.command))
    (puts_err _ _ _ _ (front_then _ _ _ _ _ c.in_ok-put.ensures h) c.from_residual-in_err-put_command.ensures.0)

pub returns : goal.returns
unfolding printed_word send_line
returns g c =
    let p = puts_last _ _ _ _ _ _ c.in_ok-put_command.ensures c.put-2.ensures in
    let q = puts_last _ _ _ _ _ _ (rw c.from.ensures at c.in_ok-put_spaced.ensures) p in
    rw (line_pieces (codes "line") (decimal c.args.line ∷ codes "send" ∷ []) (command_words c.args.command))
    (puts_last _ _ _ _ _ _ c.in_ok-put.ensures q)
