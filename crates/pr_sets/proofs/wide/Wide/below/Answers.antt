use Rattle.pr_sets.proofs.Common.{w128}
use Rattle.pr_sets.proofs.lemmas.WordBits.{has-below}
use Rattle.pr_sets.proofs.wide.Wide.below.Goals as goal

pub returns : goal.returns
returns c n = has-below w128 c.args.size n c.requires
