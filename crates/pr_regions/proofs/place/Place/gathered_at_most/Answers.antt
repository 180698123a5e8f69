use Rattle.pr_regions.proofs.lemmas.Portions.GatheredStates.{IsPortionOf, in_from_at}
use Rattle.pr_regions.proofs.place.Place.gathered_at_most.Goals as goal

pub returns : goal.returns
returns c s is uniform u at g r so =
    let of : IsPortionOf c.args.view.now c.args.self.now c.args.senders c.args.region.now c.portion.result =
    record { sender = c.portion.ensures.sender; reservation = c.portion.ensures.reservation; left = c.portion.ensures.left; tested = c.portion.ensures.tested } in
    (in_from_at s c.args.view.now c.args.self.now c.args.senders c.args.region.now c.portion.result is uniform of u at).registrations g r so
