use Rattle.pr_report.proofs.Common.{ℕ, ◌<◌, ◌≤◌, ap, ◌∙◌, arith, view_of, count_of_attentions, codes_in, printed_word, attentions_word, puts_err, wrote_front, wrote_more}
use Rattle.pr_report.proofs.lemmas.WordsWritten.Possibilities.{possible_here, range_here, range_end, shown_end}
use Rattle.pr_report.proofs.outline.put_pending.Goals as goal

pub returns-in_err-put_if : goal.returns-in_err-put_if
unfolding printed_word
returns-in_err-put_if g c = λ own.
    let word = λ (q : ℕ). attentions_word (codes_in q) in
    let is_possible = (view_of own c.args.view.now).pending in
    let below : c.loop-number.number < count_of_attentions = omega arith in
    let here = possible_here word is_possible c.loop-number.number _ _ _ _ (range_here c.loop-number.number count_of_attentions below)
    (c.has_pending.ensures own) (ap attentions_word (c.as_slice.ensures.value ∙ c.codes_in-codes.ensures)) in
    puts_err _ _ _ _ (wrote_front _ _ _ _ _ _ (rw here at (c.loop-number.invariant own)) c.in_err-put_if.ensures) c.from_residual.ensures.0

pub loop-number-preserved : goal.loop-number-preserved
unfolding printed_word
loop-number-preserved g c = λ own.
    let word = λ (q : ℕ). attentions_word (codes_in q) in
    let is_possible = (view_of own c.args.view.now).pending in
    let below : c.loop-number.number < count_of_attentions = omega arith in
    let here = possible_here word is_possible c.loop-number.number _ _ _ _ (range_here c.loop-number.number count_of_attentions below)
    (c.has_pending.ensures own) (ap attentions_word (c.as_slice.ensures.value ∙ c.codes_in-codes.ensures)) in
    wrote_more _ _ _ _ _ _ (rw here at (c.loop-number.invariant own)) c.in_ok-put_if.ensures

pub returns : goal.returns
returns g c = λ own.
    let word = λ (q : ℕ). attentions_word (codes_in q) in
    let is_possible = (view_of own c.args.view.now).pending in
    let past : count_of_attentions ≤ c.loop-number.number = omega arith in
    shown_end _ _ _ word is_possible _ (range_end c.loop-number.number count_of_attentions past) (c.loop-number.invariant own)
