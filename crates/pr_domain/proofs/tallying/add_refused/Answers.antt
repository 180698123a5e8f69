use Rattle.pr_domain.proofs.Common.{refl, view_in, IsAt, HasOneOf}
use Rattle.pr_domain.proofs.lemmas.Tallies.Requests.{refused_right, sender_among, anywhere}
use Rattle.pr_domain.proofs.lemmas.Tallies.Growth.{grows_as}
use Rattle.pr_domain.proofs.tallying.add_refused.Goals as goal

pub returns : goal.returns
returns c s c' tests refused =
    grows_as (view_in s c.args.view.now) c' tests c.args.tally.now c.add_branch.new.tally (IsAt (view_in s c.args.view.now) c.args.place c.args.senders _) (HasOneOf s c.args.place c.args.senders)
    (λ u shown at. sender_among s c.args.view.now c.args.place c.args.senders _ u refused.is at)
    (λ u shown one. anywhere s c.args.view.now c.args.place c.args.senders c.below-anything.result _ u refused.is c.below-anything.ensures refl refl refl shown one)
    (c.add_branch.ensures s c' tests (refused_right s c' tests c.args.view.now c.args.place c.args.senders _ 0 refused refl refl))
