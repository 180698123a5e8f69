-- The space, what the arm asks, the row, and the end of the line.
use Rattle.pr_table.proofs.Common.{◌≡◌, [], ◌∷◌, ◌++◌, sym, ap, ◌∙◌, front_first, puts_err, puts_last, puts_as}
use Rattle.std.specs.Prelude.{codes, decimal}
use Rattle.pr_output.specs.Printed.{printed_word}
use Rattle.pr_output.specs.PrintedLines.{line}
use Rattle.pr_output.proofs.lemmas.Written.Fronts.{front_then}
use Rattle.pr_report.specs.ScenarioWords.{test_words}
use Rattle.pr_report.proofs.lemmas.WordsWritten.Possibilities.{line_pieces}
use Rattle.pr_table.proofs.writing.put_arm.Goals as goal

pub returns-in_err-put : goal.returns-in_err-put
returns-in_err-put g c =
    puts_as _ _ _ _ _ (line_pieces (codes " ") (test_words c.args.test) (decimal c.args.row ∷ []))
    (puts_err _ _ _ _ (front_first _ _ _ _ c.in_err-put.ensures) c.from_residual.ensures.0)

pub returns-in_err-put_test : goal.returns-in_err-put_test
returns-in_err-put_test g c =
    let f = front_first _ _ _ _ c.in_err-put_test.ensures in
    puts_as _ _ _ _ _ (line_pieces (codes " ") (test_words c.args.test) (decimal c.args.row ∷ []))
    (puts_err _ _ _ _ (front_then _ _ _ _ _ c.in_ok-put.ensures f) c.from_residual-in_err-put_test.ensures.0)

pub returns-in_err-put_spaced : goal.returns-in_err-put_spaced
unfolding printed_word
returns-in_err-put_spaced g c =
    let number = c.from.result in
    let same : number ≡ c.args.row = c.from.ensures in
    let f = front_then _ _ _ _ _ c.in_ok-put_test.ensures (front_first _ _ _ _ c.in_err-put_spaced.ensures) in
    puts_as _ _ _ _ _ (ap (λ n. line (codes " ") (test_words c.args.test ++ decimal n ∷ [])) (sym same) ∙ line_pieces (codes " ") (test_words c.args.test) (decimal number ∷ []))
    (puts_err _ _ _ _ (front_then _ _ _ _ _ c.in_ok-put.ensures f) c.from_residual-in_err-put_spaced.ensures.0)

pub returns : goal.returns
unfolding printed_word
returns g c =
    let number = c.from.result in
    let same : number ≡ c.args.row = c.from.ensures in
    puts_as _ _ _ _ _ (ap (λ n. line (codes " ") (test_words c.args.test ++ decimal n ∷ [])) (sym same) ∙ line_pieces (codes " ") (test_words c.args.test) (decimal number ∷ []))
    (puts_last _ _ _ _ _ _ c.in_ok-put.ensures (puts_last _ _ _ _ _ _ c.in_ok-put_test.ensures (puts_last _ _ _ _ _ _ c.in_ok-put_spaced.ensures c.put-2.ensures)))
