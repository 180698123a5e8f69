use Rattle.pr_domain.proofs.Common.{view_of_sending, scope_of_sending, LandsSomehow}
use Rattle.pr_domain.proofs.lemmas.Reporting.OutcomeLists.{more_by, more_then, more_than_none}
use Rattle.pr_domain.proofs.lemmas.Outcomes.Coverage.{all_ways}
use Rattle.pr_domain.proofs.reporting.Sending.outcomes.Goals as goal

pub returns-clause-outcomes : goal.returns-clause-outcomes
returns-clause-outcomes c tally =
    let q = c.args.self.now in
    let s = scope_of_sending q in
    let none = c.new-outcomes.result.items in
    let chain =
    more_then s none _ _ _ _ (more_then s none _ _ _ _ (more_then s none _ _ _ _ (more_then s none _ _ _ _ (more_then s none _ _ _ _ (more_then s none _ _ _ _ (more_then s none _ _ _ _ (more_then s none _ _ _ _ (more_then s none _ _ _ _
    (c.in_ok-add_all_good.ensures.more tally) (c.in_ok-add_conflict.ensures.more tally)) (c.in_ok-add_power_on.ensures.more tally)) (c.in_ok-add_report.ensures.more tally)) (c.in_ok-add_report-2.ensures.more tally))
    (c.in_ok-add_report-3.ensures.more tally)) (c.in_ok-add_early.ensures.more tally)) (c.in_ok-add_fault.ensures.more tally)) (c.in_ok-add_declared.ensures.more tally)) (c.in_ok-add_declared-2.ensures.more tally) in
    more_than_none s none c.add_declared-2.new.outcomes.items (LandsSomehow (view_of_sending q) q.refusals q.asked.command q.asked.tests.now) c.new-outcomes.ensures.items
    (more_by s none c.add_declared-2.new.outcomes.items _ (LandsSomehow (view_of_sending q) q.refusals q.asked.command q.asked.tests.now) (all_ways (view_of_sending q) q.refusals q.asked.command q.asked.tests.now) chain)
