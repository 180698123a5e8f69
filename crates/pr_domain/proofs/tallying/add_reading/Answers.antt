use Rattle.pr_domain.proofs.Common.{refl, view_in, IsAt, IsReadAt}
use Rattle.pr_domain.proofs.lemmas.Tallies.DataArms.{reading_right, read_at, at_read}
use Rattle.pr_domain.proofs.lemmas.Tallies.Requests.{only_uniform}
use Rattle.pr_domain.proofs.lemmas.Tallies.Growth.{grows_as}
use Rattle.pr_domain.proofs.lemmas.Tallies.PresentStates.{reading_there}
use Rattle.pr_domain.proofs.tallying.add_reading.Goals as goal

pub returns : goal.returns
returns c s c' tests right =
    grows_as (view_in s c.args.view.now) c' tests c.args.tally.now c.add_branch.new.tally (IsAt (view_in s c.args.view.now) c.args.place c.only-senders.result c.args.reading.now.region)
    (IsReadAt s c.args.view.now c.args.place c.args.registration c.args.reading.now)
    (λ u shown at. read_at s c.args.view.now c.args.place c.args.registration c.only-senders.result c.args.reading.now u right.is c.only-senders.ensures at)
    (λ u shown read. at_read s c.args.view.now c.args.place c.args.registration c.only-senders.result c.args.reading.now u right.is c.only-senders.ensures shown read)
    (c.add_branch.ensures s c' tests (reading_right s c' tests c.args.view.now c.args.place c.args.registration c.only-senders.result c.args.reading.now _ c.change_to_reservation.result c.way_of-way.result.number right c.only-senders.ensures refl refl c.change_to_reservation.ensures c.way_of-way.ensures.way c.way_of-way.ensures.none))

pub returns-then-is_tallied : goal.returns-then-is_tallied
returns-then-is_tallied c s c' tests right =
    reading_there s c' tests c.args.view.now c.args.place c.args.registration c.only-senders.result c.args.reading.now c.way_of-way.result.number c.args.tally.now right c.only-senders.ensures c.way_of-way.ensures.way
    c.way_of-way.ensures.none (c.is_tallied.ensures c.if-is_tallied.true s right.is (only_uniform c.args.registration c.only-senders.result c.only-senders.ensures))
