use Rattle.pr_commands.proofs.Common.{List, ℕ, flat_map_end, flat_map_from, puts_err, wrote_all, wrote_front, wrote_more}
use Rattle.std.specs.FinSet as set
use Rattle.pr_attention.specs.declared.attention.Attention.{Attention}
use Rattle.pr_attention.specs.Attentions.{Codes, code_of, each_attention}
use Rattle.pr_commands.specs.WitnessText.{code_word}
use Rattle.pr_commands.proofs.witness_text.put_codes.Goals as goal

abbrev word : Codes → Attention → List ℕ
word pending a = code_word (set.contains pending) (code_of a)

pub returns-in_err-put_code : goal.returns-in_err-put_code
returns-in_err-put_code g c =
    let here = flat_map_from (word c.args.pending.now) each_attention c.loop-attention.attention-index _ c.loop-attention-test.true in
    puts_err _ _ _ _ (wrote_front _ _ _ _ _ _ (rw here at c.loop-attention.invariant) c.in_err-put_code.ensures) c.from_residual.ensures.0

pub loop-attention-preserved : goal.loop-attention-preserved
loop-attention-preserved g c =
    let here = flat_map_from (word c.args.pending.now) each_attention c.loop-attention.attention-index _ c.loop-attention-test.true in
    wrote_more _ _ _ _ _ _ (rw here at c.loop-attention.invariant) c.in_ok-put_code.ensures

pub returns : goal.returns
returns g c =
    wrote_all _ _ _ (rw (flat_map_end (word c.args.pending.now) each_attention c.loop-attention.attention-index c.loop-attention-test.false) at c.loop-attention.invariant)
