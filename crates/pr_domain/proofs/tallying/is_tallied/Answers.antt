use Rattle.pr_domain.proofs.lemmas.Tallies.PresentStates.{tallied_there}
use Rattle.pr_domain.proofs.tallying.is_tallied.Goals as goal

pub returns-then-has : goal.returns-then-has
returns-then-has c second s is uniform u i at so =
    let view = c.args.view.now in
    let place = c.args.place in
    let region = c.args.region.now in
    let most = c.gathered_at_most-most.result in
    let there = c.gathered_at_most-most.ensures s is uniform u at in
    let found = c.part-found.result in (
      tallied_there c.args.tally.now 1 s view place c.args.senders region most found is c.part-found.ensures.registrations c.part-found.ensures.reservations (c.has.ensures c.if-has.true) u i at there so,
      tallied_there c.args.tally.now _ s view place c.args.senders region most found is c.part-found.ensures.registrations c.part-found.ensures.reservations (c.has-then-has.ensures second) u i at there so,
    )
