use Rattle.pr_report.proofs.Common.{ℕ, ◌+◌, ◌-◌, length, range_with_len, view_of, key_at, free_or_key, Wrote}
use Rattle.pr_report.proofs.lemmas.WordsWritten.Possibilities.{shown}
use Rattle.pr_report.proofs.outline.put_keys.Given as goal

abbrev pub invariant-loop-number : goal.invariant-loop-number
invariant-loop-number g l =
    (own : ℕ)
    → let keys = l.view.keys.items in
    let word = λ (r : ℕ). free_or_key (key_at keys r) in
    let is_possible = (view_of own l.view).registrations l.host in
    Wrote (g.W.Write.contents l.fn.writer) (g.W.Write.contents l.writer)
    (shown word is_possible (range_with_len 0 (length keys + 1))) (shown word is_possible (range_with_len l.number (length keys + 1 - l.number)))
