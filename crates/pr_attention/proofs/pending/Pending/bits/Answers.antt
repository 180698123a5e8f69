use Rattle.std.proofs.Common.{ap, ◌∙◌}
use Rattle.pr_attention.specs.Flagged.{codes_of}
use Rattle.pr_attention.proofs.pending.Pending.bits.Goals as goal

pub returns-clause-codes : goal.returns-clause-codes
returns-clause-codes c = ap codes_of (c.bits.ensures tt) ∙ c.self.view_is
