use Rattle.pr_output.proofs.Common.{length, Wrote}
use Rattle.pr_output.proofs.bytes.put.Given as goal

-- what is left is still to be written
abbrev pub invariant-loop-rest : goal.invariant-loop-rest
invariant-loop-rest g l = Wrote (g.W.Write.contents l.fn.writer) (g.W.Write.contents l.writer) l.text l.rest

abbrev pub decreases-loop-rest : goal.decreases-loop-rest
decreases-loop-rest g l = length l.rest
