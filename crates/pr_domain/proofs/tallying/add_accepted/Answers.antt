use Rattle.pr_domain.proofs.Common.{Any, view_in, IsAt, HasOneOf}
use Rattle.pr_domain.proofs.lemmas.Tallies.Requests.{asked_right, asked_covers, asked_back}
use Rattle.pr_domain.proofs.lemmas.Tallies.Growth.{grows_as}
use Rattle.pr_domain.proofs.tallying.add_accepted.Goals as goal

pub returns : goal.returns
returns c s c' tests asked =
    let view = c.args.view.now in
    let branches = c.branches-branches.result.items in
    let are = c.branches-branches.ensures.right in
    grows_as (view_in s view) c' tests c.args.tally.now c.add_branches.new.tally (λ u. Any (λ b. IsAt (view_in s view) c.args.place c.args.senders b.region u) branches) (HasOneOf s c.args.place c.args.senders)
    (λ u shown any. asked_back s c' tests view c.args.place c.args.purpose c.args.arm.number c.args.senders c.args.standing branches asked u any)
    (λ u shown one. asked_covers s c' tests view c.args.place c.args.purpose c.args.arm.number c.args.senders c.args.standing branches asked are u shown one)
    ((rw c.deref.ensures.0 at c.add_branches.ensures) s c' tests (asked_right s c' tests view c.args.place c.args.purpose c.args.arm.number c.args.senders c.args.standing branches asked are c.branches-branches.ensures.proper))
