use Rattle.pr_output.proofs.Common.{◌++◌, codes}
use Rattle.pr_output.specs.PrintedLines.{attention_word}
use Rattle.pr_output.proofs.lemmas.Written.Fronts.{flat_map_end, flat_map_from, puts_err, wrote_all, wrote_front, wrote_more}
use Rattle.pr_output.proofs.printing.put_more_attentions.Goals as goal

pub returns-in_err-put_after_plus : goal.returns-in_err-put_after_plus
returns-in_err-put_after_plus g c =
    let here = flat_map_from (λ code. codes "+" ++ attention_word code) c.args.codes.now c.loop-code.code-index 0 c.loop-code-test.true in
    puts_err _ _ _ _ (wrote_front _ _ _ _ _ _ (rw here at c.loop-code.invariant) c.in_err-put_after_plus.ensures) c.from_residual.ensures.0

pub loop-code-preserved : goal.loop-code-preserved
loop-code-preserved g c =
    let here = flat_map_from (λ code. codes "+" ++ attention_word code) c.args.codes.now c.loop-code.code-index 0 c.loop-code-test.true in
    wrote_more _ _ _ _ _ _ (rw here at c.loop-code.invariant) c.in_ok-put_after_plus.ensures

pub returns : goal.returns
returns g c =
    wrote_all _ _ _ (rw (flat_map_end (λ code. codes "+" ++ attention_word code) c.args.codes.now c.loop-code.code-index c.loop-code-test.false) at c.loop-code.invariant)
