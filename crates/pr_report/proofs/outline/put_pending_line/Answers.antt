use Rattle.pr_report.proofs.Common.{ℕ, [], ◌∷◌, map, codes, filter, range_with_len, view_of, count_of_attentions, codes_in, printed_word, attentions_word, front_first, front_then, puts_err, puts_last}
use Rattle.pr_report.specs.OutlineText.{pending_line}
use Rattle.pr_report.proofs.lemmas.WordsWritten.Possibilities.{line_pieces, puts_as}
use Rattle.pr_report.proofs.outline.put_pending_line.Goals as goal

pub returns-in_err-begin_item : goal.returns-in_err-begin_item
unfolding printed_word pending_line
returns-in_err-begin_item g c = λ own.
    let is_possible = (view_of own c.args.view.now).pending in
    let words = map (λ (q : ℕ). attentions_word (codes_in q)) (filter is_possible (range_with_len 0 count_of_attentions)) in
    puts_as _ _ _ _ _ (line_pieces (codes " ") (codes "pending" ∷ []) words) (puts_err _ _ _ _ (front_first _ _ _ _ c.in_err-begin_item.ensures) c.from_residual.ensures.0)

pub returns-in_err-put_pending : goal.returns-in_err-put_pending
unfolding printed_word pending_line
returns-in_err-put_pending g c = λ own.
    let is_possible = (view_of own c.args.view.now).pending in
    let words = map (λ (q : ℕ). attentions_word (codes_in q)) (filter is_possible (range_with_len 0 count_of_attentions)) in
    let f = front_first _ _ _ _ (c.in_err-put_pending.ensures own) in
    puts_as _ _ _ _ _ (line_pieces (codes " ") (codes "pending" ∷ []) words)
    (puts_err _ _ _ _ (front_then _ _ _ _ _ c.in_ok-begin_item.ensures f) c.from_residual-in_err-put_pending.ensures.0)

pub returns : goal.returns
unfolding printed_word pending_line
returns g c = λ own.
    let is_possible = (view_of own c.args.view.now).pending in
    let words = map (λ (q : ℕ). attentions_word (codes_in q)) (filter is_possible (range_with_len 0 count_of_attentions)) in
    puts_as _ _ _ _ _ (line_pieces (codes " ") (codes "pending" ∷ []) words)
    (puts_last _ _ _ _ _ _ c.in_ok-begin_item.ensures (puts_last _ _ _ _ _ _ (c.in_ok-put_pending.ensures own) c.put.ensures))
