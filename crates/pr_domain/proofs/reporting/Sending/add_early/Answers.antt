use Rattle.pr_domain.proofs.Common.{IsTrue, scope_of_sending}
use Rattle.pr_domain.specs.inside.Sendings.{LandsEarly}
use Rattle.pr_domain.proofs.lemmas.Reporting.OutcomeLists.{more_by, more_then}
use Rattle.pr_domain.proofs.reporting.Sending.add_early.Goals as goal

pub returns-clause-more : goal.returns-clause-more
returns-clause-more c tally =
    let q = c.args.self.now in
    let s = scope_of_sending q in
    let old = c.args.outcomes.now.items in
    more_by s old c.add_report-3.new.outcomes.items (LandsEarly q) (λ l i. IsTrue q.refusals.early × LandsEarly q l i) (λ l i. (λ lands. (c.if-not-self.false, lands), λ both. both.1))
    (more_then s old _ _ _ _ (more_then s old _ _ _ _ (c.in_ok-add_report.ensures.more tally) (c.in_ok-add_report-2.ensures.more tally)) (c.in_ok-add_report-3.ensures.more tally))
