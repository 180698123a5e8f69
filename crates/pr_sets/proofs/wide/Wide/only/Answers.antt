use Rattle.pr_sets.proofs.Common.{w128}
use Rattle.pr_sets.proofs.lemmas.WordBits.{has-only}
use Rattle.pr_sets.proofs.wide.Wide.only.Goals as goal

pub returns : goal.returns
returns c m = has-only w128 c.args.n m c.requires
