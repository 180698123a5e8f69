use Rattle.std.proofs.Common.{◌≡◌, ap, ◌∙◌}
use Rattle.std.specs.FinSet as set
use Rattle.bitflags.specs.Sets.{without}
use Rattle.pr_attention.specs.Attentions.{code_of}
use Rattle.pr_attention.specs.Flagged.{codes_of}
use Rattle.pr_attention.proofs.lemmas.Bits.{flag_of, without_flag-lt, codes_of-without_flag}
use Rattle.pr_attention.proofs.pending.Pending.remove.Goals as goal

bits : (c : goal.After-remove) → c.remove.new.self.0 ≡ without 8 c.self.inside.flags.0 (flag_of c.args.attention)
bits c = c.remove.ensures tt ∙ ap (without 8 c.self.inside.flags.0) c.flag.ensures

pub invariant_of-self : goal.invariant_of-self
invariant_of-self c = rw (bits c) (without_flag-lt c.self.inside.flags.0 c.args.attention c.self.invariant)

pub returns : goal.returns
returns c =
    ap codes_of (bits c) ∙ codes_of-without_flag c.self.inside.flags.0 c.args.attention ∙ ap (λ s. set.remove s (code_of c.args.attention)) c.self.view_is
