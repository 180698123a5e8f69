use Rattle.pr_domain.proofs.Common.{arith, not-true}
use Rattle.pr_domain.proofs.lemmas.Tallies.PresentStates.{has_found}
use Rattle.pr_domain.proofs.tally.Tally.has.Goals as goal

pub returns : goal.returns
returns c tells = has_found c.args.self.now c.args.way c.args.hosts _ c.args.found.now (omega arith) (c.gains.ensures.none (not-true c.gains.result tells))
