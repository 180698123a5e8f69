use Rattle.pr_output.proofs.Common.{drop, pairs, Wrote}
use Rattle.pr_output.proofs.printing.put_pairs.Given as goal

abbrev pub invariant-loop-byte : goal.invariant-loop-byte
invariant-loop-byte g l = Wrote (g.W.Write.contents l.fn.writer) (g.W.Write.contents l.writer) (pairs l.bytes) (pairs (drop l.byte-index l.bytes))
