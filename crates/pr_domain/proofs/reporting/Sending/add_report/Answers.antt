use Rattle.pr_domain.proofs.Common.{Plain, code_of, report, slice_get, sym, ap, ◌∙◌}
use Rattle.pr_domain.proofs.lemmas.Tallies.EndingWays.{adds_report}
use Rattle.pr_domain.proofs.reporting.Sending.add_report.Goals as goal

pub returns-clause-more : goal.returns-clause-more
returns-clause-more c tally =
    let q = c.args.self.now in
    let there = ap (slice_get q.tally.now.ways) (sym c.way_for.ensures.way) ∙ c.way-way.ensures in
    adds_report q tally c.args.conflicting c.args.attention c.landing_of-landing.result c.way-way.result c.calm.result c.after_report-pending.result c.requires.later there c.calm.ensures c.after_report-pending.ensures
    (c.landing_of-landing.ensures (report (Plain q.asked.command) (code_of c.args.attention)) c.class_of_report-class.ensures.class (c.class_of_report-class.ensures.blind q.asked.keys.now q.asked.tests.now q.asked.fit))
    c.args.outcomes.now.items c.add.new.outcomes.items c.in_ok-add.ensures.more
