use Rattle.pr_domain.proofs.Common.{sym, refl, ◌∙◌, same_Some, check}
use Rattle.pr_domain.proofs.lemmas.Tallies.EndingWays.{adds_fault}
use Rattle.pr_domain.proofs.reporting.Sending.add_fault.Goals as goal

pub returns-clause-more : goal.returns-clause-more
returns-clause-more c tally =
    let q = c.args.self.now in
    adds_fault q tally c.landing_of-landing.result c.way.result c.quiet.result c.in-Some.sense c.way.ensures c.quiet.ensures
    (λ u x is. same_Some x c.in-Some.sense (sym (c.fault_of.ensures q.asked.keys.now u.registry q.sender x q.asked.written is) ∙ c.in-Some.is)) (c.landing_of-landing.ensures (check c.in-Some.sense) (refl, refl) tt)
    c.args.outcomes.now.items c.add.new.outcomes.items c.in_ok-add.ensures.more
