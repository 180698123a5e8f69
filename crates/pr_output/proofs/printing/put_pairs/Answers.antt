use Rattle.pr_output.proofs.Common.{pairs}
use Rattle.pr_output.proofs.lemmas.Written.Fronts.{flat_map_end, flat_map_from, puts_err, wrote_all, wrote_front, wrote_more}
use Rattle.pr_output.specs.PrintedLines.{pair}
use Rattle.pr_output.proofs.printing.put_pairs.Goals as goal

pub returns-in_err-put : goal.returns-in_err-put
unfolding pairs
returns-in_err-put g c =
    let here = flat_map_from pair c.args.bytes.now c.loop-byte.byte-index 0 c.loop-byte-test.true in
    puts_err _ _ _ _ (wrote_front _ _ _ _ _ _ (rw here at c.loop-byte.invariant) (rw c.pair.ensures at c.in_err-put.ensures)) c.from_residual.ensures.0

pub loop-byte-preserved : goal.loop-byte-preserved
unfolding pairs
loop-byte-preserved g c =
    let here = flat_map_from pair c.args.bytes.now c.loop-byte.byte-index 0 c.loop-byte-test.true in
    wrote_more _ _ _ _ _ _ (rw here at c.loop-byte.invariant) (rw c.pair.ensures at c.in_ok-put.ensures)

pub returns : goal.returns
unfolding pairs
returns g c =
    wrote_all _ _ _ (rw (flat_map_end pair c.args.bytes.now c.loop-byte.byte-index c.loop-byte-test.false) at c.loop-byte.invariant)
