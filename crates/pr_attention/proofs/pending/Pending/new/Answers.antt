use Rattle.std.proofs.Common.{ap, ◌∙◌}
use Rattle.pr_attention.specs.Flagged.{codes_of}
use Rattle.pr_attention.proofs.lemmas.Bits.{codes_of-zero}
use Rattle.pr_attention.proofs.pending.Pending.new.Goals as goal

pub returns : goal.returns
returns c = ap codes_of (c.empty.ensures tt) ∙ codes_of-zero
