use Rattle.pr_interference.proofs.Common.{◌≡◌, true, subst, has_at}
use Rattle.pr_interference.proofs.lemmas.Reaching.Bounds.{most_of_reach}
use Rattle.pr_interference.proofs.onlooker.Onlooker.may_gain.Goals as goal

pub returns : goal.returns
returns c none s clause is reaches =
    let o = c.args.self.now in
    most_of_reach s o clause c.args.reach.now is _ reaches
    (record {
      given = c.lacks_at.ensures c.if-lacks_at.false;
      freed = c.may_free.ensures none;
      reservations = c.lacks_wide.ensures c.if-lacks_wide.false;
      pending = λ r q n owns. c.may_tell.ensures c.if-may_tell.false r q n (subst (λ g. has_at o.view.registrations g r ≡ true) is.own owns);
    })
