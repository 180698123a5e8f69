-- The beginning of the line, what the arm asks, and the end of the line.
use Rattle.pr_report.proofs.Common.{[], ◌∷◌, codes, printed_word, front_first, front_then, puts_err, puts_last}
use Rattle.pr_report.specs.ScenarioWords.{test_words}
use Rattle.pr_report.proofs.lemmas.WordsWritten.Possibilities.{line_pieces, puts_as}
use Rattle.pr_report.proofs.outline.put_arm.Goals as goal

pub returns-in_err-begin_item : goal.returns-in_err-begin_item
unfolding printed_word
returns-in_err-begin_item g c =
    rw c.in-Some.is (puts_as _ _ _ _ _ (line_pieces (codes " ") (codes "on" ∷ []) (test_words c.in-Some.test))
    (puts_err _ _ _ _ (front_first _ _ _ _ c.in_err-begin_item.ensures) c.from_residual.ensures.0))

pub returns-in_err-put_test : goal.returns-in_err-put_test
unfolding printed_word
returns-in_err-put_test g c =
    let f = front_first _ _ _ _ c.in_err-put_test.ensures in
    rw c.in-Some.is (puts_as _ _ _ _ _ (line_pieces (codes " ") (codes "on" ∷ []) (test_words c.in-Some.test))
    (puts_err _ _ _ _ (front_then _ _ _ _ _ c.in_ok-begin_item.ensures f) c.from_residual-in_err-put_test.ensures.0))

pub returns : goal.returns
unfolding printed_word
returns g c =
    rw c.in-Some.is (puts_as _ _ _ _ _ (line_pieces (codes " ") (codes "on" ∷ []) (test_words c.in-Some.test))
    (puts_last _ _ _ _ _ _ c.in_ok-begin_item.ensures (puts_last _ _ _ _ _ _ c.in_ok-put_test.ensures c.put.ensures)))
