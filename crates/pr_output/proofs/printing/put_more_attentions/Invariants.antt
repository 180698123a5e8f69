use Rattle.pr_output.proofs.Common.{drop, Wrote}
use Rattle.pr_output.specs.PrintedLines.{more_attentions_word}
use Rattle.pr_output.proofs.printing.put_more_attentions.Given as goal

abbrev pub invariant-loop-code : goal.invariant-loop-code
invariant-loop-code g l =
    Wrote (g.W.Write.contents l.fn.writer) (g.W.Write.contents l.writer) (more_attentions_word l.codes) (more_attentions_word (drop l.code-index l.codes))
