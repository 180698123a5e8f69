use Rattle.pr_attention.proofs.lemmas.Bits.{AreAttentions-codes_of}
use Rattle.pr_attention.proofs.pending.Pending.copy.Goals as goal

pub returns-clause-members : goal.returns-clause-members
returns-clause-members c = rw (← c.self.view_is) (AreAttentions-codes_of c.self.inside.flags.0)
