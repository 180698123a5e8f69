use Rattle.pr_output.proofs.Common.{map, drop, printed_word, joined_by_spaces, Wrote}
use Rattle.pr_output.proofs.printing.put_spaced.Given as goal

abbrev pub invariant-loop-word : goal.invariant-loop-word
invariant-loop-word g l = Wrote (g.W.Write.contents l.fn.writer) (g.W.Write.contents l.writer) (joined_by_spaces (map printed_word l.words)) (joined_by_spaces (map printed_word (drop l.word-index l.words)))
