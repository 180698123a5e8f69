use Rattle.pr_regions.proofs.lemmas.Parts.Branches.{tell_alone}
use Rattle.pr_regions.proofs.branching.ending_everywhere.Goals as goal

pub returns : goal.returns
returns c hosts purpose held sender standing always = rw c.one.ensures (tell_alone hosts purpose held sender standing _ c.whole.ensures always)
