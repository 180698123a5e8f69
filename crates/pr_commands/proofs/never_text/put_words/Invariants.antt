-- the words before this one
use Rattle.pr_commands.proofs.Common.{drop, flat_map, map, Wrote, ◌++◌, codes}
use Rattle.pr_commands.proofs.never_text.put_words.Given as goal

abbrev pub invariant-loop-word : goal.invariant-loop-word
invariant-loop-word g l =
    Wrote (g.W.Write.contents l.fn.writer) (g.W.Write.contents l.writer) (flat_map (λ word. word ++ codes " ") (map (λ w. w.now) l.words))
    (flat_map (λ word. word ++ codes " ") (map (λ w. w.now) (drop l.word-index l.words)))
