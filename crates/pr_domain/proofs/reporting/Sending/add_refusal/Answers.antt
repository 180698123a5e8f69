use Rattle.pr_domain.proofs.Common.{refusal}
use Rattle.pr_domain.proofs.lemmas.Tallies.EndingWays.{adds_refusal, part_joined}
use Rattle.pr_domain.proofs.reporting.Sending.add_refusal.Goals as goal

pub returns-clause-more : goal.returns-clause-more
returns-clause-more c tally =
    let q = c.args.self.now in
    adds_refusal q tally c.args.refused c.landing_of-landing.result c.way-way.result c.way.result c.join.new.self c.way-way.ensures c.way.ensures
    (part_joined c.way-way.result c.way.result c.join.new.self c.join.ensures.registrations c.join.ensures.reservations)
    (c.landing_of-landing.ensures (refusal c.args.refused) c.class-class.ensures.class (c.class-class.ensures.blind q.asked.tests.now)) c.args.outcomes.now.items c.add.new.outcomes.items c.in_ok-add.ensures.more
