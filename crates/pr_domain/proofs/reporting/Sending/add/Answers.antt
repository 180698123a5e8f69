use Rattle.pr_domain.proofs.Common.{◌≡◌, view_in, IsPossible, IsOfWayAt, scope_of_sending}
use Rattle.pr_domain.proofs.lemmas.Reporting.OutcomeLists.{more_by}
use Rattle.pr_domain.proofs.reporting.Sending.add.Goals as goal

pub put-requires-clause-some : goal.put-requires-clause-some
put-requires-clause-some c = c.is_empty.ensures.filled c.if-is_empty.false

pub returns-clause-more : goal.returns-clause-more
returns-clause-more c =
    let s = scope_of_sending c.args.self.now in
    let reserved = c.is_empty.ensures.filled c.if-is_empty.false in
    let pends = c.is_empty-else-is_empty.ensures.filled c.if-is_empty-2.false in
    more_by s c.args.outcomes.now.items c.put.new.outcomes.items (λ l i. (l ≡ c.args.landing) × IsPossible (view_in s (record c.args.way.now { pending = c.args.pending })) i)
    (IsOfWayAt c.args.self.now c.args.landing c.args.way.now c.args.pending)
    (λ l i. (λ is. (is.0, record { reserved = reserved; pends = pends; possible = is.1 }), λ is. (is.0, is.1.possible))) (c.in_ok-put.ensures.more s)
