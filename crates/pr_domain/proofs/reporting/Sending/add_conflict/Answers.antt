use Rattle.pr_domain.proofs.Common.{refl, conflict}
use Rattle.pr_domain.proofs.lemmas.Tallies.EndingWays.{adds_conflict}
use Rattle.pr_domain.proofs.reporting.Sending.add_conflict.Goals as goal

pub returns-clause-more : goal.returns-clause-more
returns-clause-more c tally =
    adds_conflict c.args.self.now tally c.landing_of-landing.result c.way.result c.calm.result c.way.ensures c.calm.ensures (c.landing_of-landing.ensures conflict refl tt)
    c.args.outcomes.now.items c.add.new.outcomes.items c.in_ok-add.ensures.more
