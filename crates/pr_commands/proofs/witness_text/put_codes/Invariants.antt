use Rattle.pr_commands.proofs.Common.{drop, flat_map, Wrote}
use Rattle.std.specs.FinSet as set
use Rattle.pr_attention.specs.Attentions.{code_of}
use Rattle.pr_commands.specs.WitnessText.{code_word, code_words}
use Rattle.pr_commands.proofs.witness_text.put_codes.Given as goal

abbrev pub invariant-loop-attention : goal.invariant-loop-attention
invariant-loop-attention g l =
    Wrote (g.W.Write.contents l.fn.writer) (g.W.Write.contents l.writer) (code_words (set.contains l.pending))
    (flat_map (λ a. code_word (set.contains l.pending) (code_of a)) (drop l.attention-index l.attention-items))
