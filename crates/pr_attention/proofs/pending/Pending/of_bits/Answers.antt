use Rattle.std.proofs.Common.{◌≡◌, ap, ◌∙◌, bit_and}
use Rattle.pr_attention.specs.Flagged.{codes_of}
use Rattle.pr_attention.proofs.lemmas.Bits.{codes_of-low, few_bits}
use Rattle.pr_attention.proofs.pending.Pending.of_bits.Goals as goal

bits : (c : goal.After-from_bits_retain) → c.from_bits_retain.result.0 ≡ bit_and c.args.bits 15
bits c = c.from_bits_retain.ensures tt

pub invariant_of-result : goal.invariant_of-result
invariant_of-result c = rw (bits c) (few_bits c.args.bits)

pub returns : goal.returns
returns c = ap codes_of (bits c) ∙ codes_of-low c.args.bits
