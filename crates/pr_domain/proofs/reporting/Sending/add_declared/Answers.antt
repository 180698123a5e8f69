use Rattle.pr_domain.proofs.Common.{IsTrue, Refuses, LandsOf, scope_of_sending}
use Rattle.pr_domain.proofs.lemmas.Reporting.OutcomeLists.{more_by}
use Rattle.pr_domain.proofs.reporting.Sending.add_declared.Goals as goal

pub returns-clause-more : goal.returns-clause-more
returns-clause-more c tally =
    let q = c.args.self.now in
    let Lands = LandsOf q (Refuses c.args.refused) in
    more_by (scope_of_sending q) c.args.outcomes.now.items c.add_refusal.new.outcomes.items Lands (λ l i. IsTrue c.args.declared × Lands l i)
    (λ l i. (λ lands. (c.if-not-declared.false, lands), λ both. both.1)) (c.in_ok-add_refusal.ensures.more tally)
