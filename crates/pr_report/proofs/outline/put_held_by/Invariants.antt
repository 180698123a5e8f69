use Rattle.pr_report.proofs.Common.{ℕ, ◌-◌, map, Some, Option, range_with_len, view_of, Held, One, number_of, names_of, held_word, Wrote}
use Rattle.pr_report.proofs.lemmas.WordsWritten.Possibilities.{shown}
use Rattle.pr_report.proofs.outline.put_held_by.Given as goal

abbrev pub invariant-loop-holder : goal.invariant-loop-holder
invariant-loop-holder g l =
    (own : ℕ)
    → let word = λ (held : Option Held). held_word (names_of l.nexuses) held in
    let is_possible = λ (held : Option Held). (view_of own l.view).reservations (number_of l.view.hosts held) in
    let by = λ (h : ℕ). Some (One l.kind h) in
    Wrote (g.W.Write.contents l.fn.writer) (g.W.Write.contents l.writer)
    (shown word is_possible (map by (range_with_len 0 l.view.hosts))) (shown word is_possible (map by (range_with_len l.holder (l.view.hosts - l.holder))))
