use Rattle.pr_witness.proofs.lemmas.Refutations.{breaches_refute_safety}
use Rattle.pr_witness.proofs.laws.breaches_refute_safety.Goals as goal

pub returns : goal.returns
returns c = breaches_refute_safety
