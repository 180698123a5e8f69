use Rattle.pr_regions.proofs.Common.{None, ◌∙◌}
use Rattle.pr_regions.proofs.lemmas.Readings.ReservationArms.{read_everywhere, key_of_none}
use Rattle.pr_regions.proofs.reservation_reads.reservation_readings.Goals as goal

pub returns-in-None-clause-right : goal.returns-in-None-clause-right
returns-in-None-clause-right c hosts =
    let all = c.everywhere.ensures.all in
    rw all.alone (
    read_everywhere c.args.keys.now hosts c.args.held c.args.sender c.args.registration c.args.tests.now None all.reading c.requires.fits all.whole (all.arm ∙ c.first_arm.ensures)
    (key_of_none c.args.keys.now hosts c.args.held c.args.sender c.args.registration c.in-None.is))

pub returns-in-Some-clause-right : goal.returns-in-Some-clause-right
returns-in-Some-clause-right c hosts = rw c.in-Some.is (c.held_readings.ensures.right hosts)
