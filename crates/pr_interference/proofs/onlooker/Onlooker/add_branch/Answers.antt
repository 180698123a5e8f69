use Rattle.pr_interference.proofs.lemmas.Interfering.Additions.{adds_branch}
use Rattle.pr_interference.proofs.onlooker.Onlooker.add_branch.Goals as goal

pub returns-in-Some : goal.returns-in-Some
returns-in-Some c s is uniform proper =
    adds_branch s c.args.self.now.view c.args.answer.now c.in-Some.after c.join.new.self c.args.place.now c.args.senders c.args.branch.now c.in-Good.change c.in-Good.is
    (c.in-Some.ensures.some s is uniform proper)
    (record { registrations = c.join.ensures.registrations; reservations = c.join.ensures.reservations; pending = c.join.ensures.pending })
