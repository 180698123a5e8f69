use Rattle.pr_output.proofs.lemmas.Written.Fronts.{wrote_some}
use Rattle.pr_output.proofs.bytes.put.Goals as goal

pub loop-rest-preserved : goal.loop-rest-preserved
loop-rest-preserved g c = wrote_some _ _ _ _ _ _ c.loop-rest.invariant c.in-Ok.ensures.bytes
