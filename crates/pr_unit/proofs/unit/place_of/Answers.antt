use Rattle.pr_unit.proofs.Common.{sym, subst, AreAttentions}
use Rattle.pr_attention.proofs.lemmas.Sets.{AreAttentions-no_code}
use Rattle.pr_unit.proofs.unit.place_of.Goals as goal

pub returns-in-None-clause-members : goal.returns-in-None-clause-members
returns-in-None-clause-members c = subst AreAttentions (sym c.new.ensures) AreAttentions-no_code
