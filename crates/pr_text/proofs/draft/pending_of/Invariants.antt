use Rattle.pr_text.proofs.Common.{◌≡◌, take, codes_of}
use Rattle.pr_text.proofs.draft.pending_of.Given as goal

abbrev pub invariant-loop-attention : goal.invariant-loop-attention
invariant-loop-attention l = l.pending ≡ codes_of (take l.attention-index l.attentions)
