use Rattle.pr_sets.proofs.Common.{w128}
use Rattle.pr_sets.proofs.lemmas.WordBits.{has-with}
use Rattle.pr_sets.proofs.wide.Wide.with.Goals as goal

pub returns : goal.returns
returns c m = has-with w128 c.args.self.bits c.args.n m c.requires
