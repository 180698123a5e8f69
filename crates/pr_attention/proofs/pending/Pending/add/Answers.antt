use Rattle.std.proofs.Common.{◌≡◌, ap, ◌∙◌, bit_or}
use Rattle.std.specs.FinSet as set
use Rattle.pr_attention.specs.Attentions.{code_of}
use Rattle.pr_attention.specs.Flagged.{codes_of}
use Rattle.pr_attention.proofs.lemmas.Bits.{flag_of, or_flag-lt, codes_of-or_flag}
use Rattle.pr_attention.proofs.pending.Pending.add.Goals as goal

bits : (c : goal.After-insert) → c.insert.new.self.0 ≡ bit_or c.self.inside.flags.0 (flag_of c.args.attention)
bits c = c.insert.ensures tt ∙ ap (bit_or c.self.inside.flags.0) c.flag.ensures

pub invariant_of-self : goal.invariant_of-self
invariant_of-self c = rw (bits c) (or_flag-lt c.self.inside.flags.0 c.args.attention c.self.invariant)

pub returns : goal.returns
returns c =
    ap codes_of (bits c) ∙ codes_of-or_flag c.self.inside.flags.0 c.args.attention ∙ ap (λ s. set.insert s (code_of c.args.attention)) c.self.view_is
