-- the lines of the words before this one
use Rattle.pr_commands.proofs.Common.{drop, flat_map, map, Wrote}
use Rattle.pr_commands.specs.NeverText.{unmet_line}
use Rattle.pr_commands.proofs.never_text.put_unmet.Given as goal

abbrev pub invariant-loop-word : goal.invariant-loop-word
invariant-loop-word g l =
    Wrote (g.W.Write.contents l.fn.writer) (g.W.Write.contents l.writer) (flat_map (unmet_line) (map (λ w. w.now) l.unmet))
    (flat_map (unmet_line) (map (λ w. w.now) (drop l.word-index l.unmet)))
