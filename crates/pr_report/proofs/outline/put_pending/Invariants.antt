use Rattle.pr_report.proofs.Common.{ℕ, ◌-◌, range_with_len, view_of, count_of_attentions, codes_in, attentions_word, Wrote}
use Rattle.pr_report.proofs.lemmas.WordsWritten.Possibilities.{shown}
use Rattle.pr_report.proofs.outline.put_pending.Given as goal

abbrev pub invariant-loop-number : goal.invariant-loop-number
invariant-loop-number g l =
    (own : ℕ)
    → let word = λ (q : ℕ). attentions_word (codes_in q) in
    let is_possible = (view_of own l.view).pending in
    Wrote (g.W.Write.contents l.fn.writer) (g.W.Write.contents l.writer)
    (shown word is_possible (range_with_len 0 count_of_attentions)) (shown word is_possible (range_with_len l.number (count_of_attentions - l.number)))
