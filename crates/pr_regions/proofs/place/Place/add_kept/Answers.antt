use Rattle.pr_regions.proofs.lemmas.Showing.ShownStates.{adds_shown}
use Rattle.pr_regions.proofs.place.Place.add_kept.Goals as goal

pub returns-in-Some : goal.returns-in-Some
returns-in-Some c s is uniform =
    adds_shown s c.args.view.now c.args.kept.now c.in-Some.shown c.join.new.self c.args.self.now c.args.senders (c.in-Some.ensures.some s is uniform)
    (record { registrations = c.join.ensures.registrations; reservations = c.join.ensures.reservations; pending = c.join.ensures.pending })
