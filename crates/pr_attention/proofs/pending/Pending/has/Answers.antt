use Rattle.std.proofs.Common.{ap, ◌∙◌, ◌==◌, bit_and}
use Rattle.std.specs.FinSet as set
use Rattle.pr_attention.specs.Attentions.{code_of}
use Rattle.pr_attention.proofs.lemmas.Bits.{has_flag, AreAttentions-codes_of}
use Rattle.pr_attention.proofs.pending.Pending.has.Goals as goal

pub returns-clause-value : goal.returns-clause-value
returns-clause-value c =
    c.contains.ensures tt ∙ ap (λ f. bit_and c.self.inside.flags.0 f == f) c.flag.ensures
    ∙ has_flag c.self.inside.flags.0 c.args.attention ∙ ap (λ s. set.contains s (code_of c.args.attention)) c.self.view_is

pub returns-clause-members : goal.returns-clause-members
returns-clause-members c = rw (← c.self.view_is) (AreAttentions-codes_of c.self.inside.flags.0)
