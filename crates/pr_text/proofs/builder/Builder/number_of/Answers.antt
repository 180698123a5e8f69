use Rattle.pr_text.proofs.Common.{number_of}
use Rattle.pr_text.proofs.lemmas.Drafts.Numbers.{position_of}
use Rattle.pr_text.proofs.builder.Builder.number_of.Goals as goal

pub returns-clause-value : goal.returns-clause-value
unfolding number_of
returns-clause-value c = rw (position_of c.args.self.now.nexuses.items c.args.name.now.bytes) (cc)
