use Rattle.pr_regions.proofs.Common.{view_in}
use Rattle.std.proofs.lemmas.Option.{IfSome_then}
use Rattle.pr_regions.proofs.lemmas.Portions.GatheredStates.{IsPortionOf, is_portion, at_from_in, in_from_at, if_none}
use Rattle.pr_regions.proofs.place.Place.gather.Goals as goal

is_of : (c : goal.After-projected) → IsPortionOf c.args.view.now c.args.self.now c.args.senders c.args.region.now c.portion.result
is_of c = record { sender = c.portion.ensures.sender; reservation = c.portion.ensures.reservation; left = c.portion.ensures.left; tested = c.portion.ensures.tested }

pub returns-clause-some : goal.returns-clause-some
returns-clause-some c = IfSome_then c.projected.result c.projected.ensures.some (λ words projected s place uniform proper.
    let of = is_of c in
    let is = projected (view_in s c.args.view.now) place.hosts place.fits (is_portion s c.args.view.now c.args.self.now c.args.senders c.args.region.now c.portion.result place proper of) in
    record {
      all = λ u g r at so. is.all u g r (in_from_at s c.args.view.now c.args.self.now c.args.senders c.args.region.now c.portion.result place uniform of u at) so;
      only = λ g r q below has pending.
          let met = is.only g r q below has pending in
          record {
            unit = met.unit;
            at = at_from_in s c.args.view.now c.args.self.now c.args.senders c.args.region.now c.portion.result place of met.unit met.inside;
            is = met.is;
            pending = met.pending;
          };
      some = λ q pending.
          let together = is.some q pending in
          record {
            unit = together.unit;
            at = at_from_in s c.args.view.now c.args.self.now c.args.senders c.args.region.now c.portion.result place of together.unit together.inside;
            pending = together.pending;
          };
    })

pub returns-clause-none : goal.returns-clause-none
returns-clause-none c = if_none c.projected.result (λ none s place uniform proper u at.
    let of = is_of c in
    none (view_in s c.args.view.now) place.hosts place.fits (is_portion s c.args.view.now c.args.self.now c.args.senders c.args.region.now c.portion.result place proper of)
    u (in_from_at s c.args.view.now c.args.self.now c.args.senders c.args.region.now c.portion.result place uniform of u at)) c.projected.ensures.none
