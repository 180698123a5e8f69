use Rattle.pr_domain.proofs.Common.{Plain, power_on, report}
use Rattle.pr_domain.proofs.lemmas.Tallies.EndingWays.{adds_power_on, part_joined}
use Rattle.pr_domain.proofs.reporting.Sending.add_power_on.Goals as goal

pub returns-clause-more : goal.returns-clause-more
returns-clause-more c tally =
    let q = c.args.self.now in
    adds_power_on q tally c.landing_of-landing.result c.way-way.result c.way.result c.join.new.self c.after_report-pending.result c.way-way.ensures c.way.ensures
    (part_joined c.way-way.result c.way.result c.join.new.self c.join.ensures.registrations c.join.ensures.reservations) c.after_report-pending.ensures
    (c.landing_of-landing.ensures (report (Plain q.asked.command) power_on) c.class_of_report-class.ensures.class (c.class_of_report-class.ensures.blind q.asked.keys.now q.asked.tests.now q.asked.fit))
    c.args.outcomes.now.items c.add.new.outcomes.items c.in_ok-add.ensures.more
