use Rattle.pr_witness.proofs.lemmas.Refutations.{breaches_are_legal}
use Rattle.pr_witness.proofs.laws.breaches_are_legal.Goals as goal

pub returns : goal.returns
returns c = breaches_are_legal
