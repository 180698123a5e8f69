use Rattle.pr_interference.proofs.Common.{Any, sym, refl, ◌∙◌, view_in, adds_nothing, StandingLeads, IsLedBy, IsLeftBy, ClauseLeaves}
use Rattle.pr_interference.proofs.lemmas.Interfering.Additions.{adds_so}
use Rattle.pr_interference.proofs.lemmas.Interfering.Standings.{uniform, none_send, none_among, led_by_branches, left_by_branches}
use Rattle.pr_interference.proofs.onlooker.Onlooker.add_standing.Goals as goal

pub returns-then-may_send : goal.returns-then-may_send
returns-then-may_send c s is fits meant =
    let o = c.args.self.now in
    let place = c.args.place.now in
    let clause = c.args.clause.now in
    let branches = c.branches-branches.result.items in
    let senders = c.senders-senders.result in
    let added = (rw c.deref.ensures.0 at c.add_branches.ensures) s is (uniform c.args.purpose c.args.standing senders c.senders-senders.ensures) c.branches-branches.ensures.proper in
    adds_so s c.args.answer.now c.add_branches.new.answer (λ u w. Any (λ b. IsLedBy s o.view place senders b u w) branches)
    (StandingLeads (view_in s o.view) clause place.sender place.reservation c.args.purpose c.args.standing)
    (λ i. Any (λ b. IsLeftBy s o.view place senders b i) branches) (ClauseLeaves (view_in s o.view) clause place.sender) added
    (λ u w leads. led_by_branches s o place clause c.args.purpose c.args.standing senders branches u w is c.senders-senders.ensures c.branches-branches.ensures.right leads)
    (λ i among. left_by_branches s o place clause c.args.purpose c.args.standing senders branches i is c.senders-senders.ensures c.branches-branches.ensures.right fits meant
    (sym c.may_send.ensures ∙ c.if-may_send.true) among)

pub returns-else-may_send : goal.returns-else-may_send
returns-else-may_send c s is fits meant =
    adds_nothing s c.args.answer.now (StandingLeads (view_in s c.args.self.now.view) c.args.clause.now c.args.place.now.sender c.args.place.now.reservation c.args.purpose c.args.standing)
    (ClauseLeaves (view_in s c.args.self.now.view) c.args.clause.now c.args.place.now.sender)
    (λ u w leads. none_send s c.args.self.now c.args.place.now c.args.clause.now c.args.purpose c.args.standing u w is (sym c.may_send.ensures ∙ c.if-may_send.false) leads)

pub returns-then-not-may_be_among : goal.returns-then-not-may_be_among
returns-then-not-may_be_among c s is fits meant =
    let o = c.args.self.now in
    let place = c.args.place.now in
    adds_nothing s c.args.answer.now (StandingLeads (view_in s o.view) c.args.clause.now place.sender place.reservation c.args.purpose c.args.standing) (ClauseLeaves (view_in s o.view) c.args.clause.now place.sender)
    (λ u w leads. none_among s o place c.args.clause.now c.args.purpose c.args.standing c.senders-senders.result u w is c.senders-senders.ensures (c.if-not-may_be_among.ensures refl) leads)
