use Rattle.pr_regions.proofs.Common.{◌≡◌, ◌≢◌, Some, unwrap_or, ap, ◌∙◌, arith, key_at}
use Rattle.pr_regions.proofs.lemmas.Readings.ReservationArms.{read_everywhere, key_of_all, key_of_sender}
use Rattle.pr_regions.proofs.reservation_reads.held_readings.Goals as goal

pub returns-in-All-clause-right : goal.returns-in-All-clause-right
returns-in-All-clause-right c hosts =
    let all = c.everywhere.ensures.all in
    rw all.alone (
    read_everywhere c.args.keys.now hosts (Some c.args.held) c.args.sender c.args.registration c.args.tests.now (Some 0) all.reading c.requires.fits all.whole (all.arm ∙ c.first_arm.ensures)
    (key_of_all c.args.keys.now hosts (Some c.args.held) c.in-All.field-0 c.args.sender c.args.registration (ap Some c.in-All.is)))

pub returns-then-holder-sender-clause-right : goal.returns-then-holder-sender-clause-right
returns-then-holder-sender-clause-right c hosts =
    let all = c.everywhere-then-holder-sender.ensures.all in
    let same : c.in-One.holder ≡ c.args.sender = omega arith in
    let key = c.unwrap_or-key.ensures ∙ ap (λ o. unwrap_or o 0) c.key_at.ensures in
    rw all.alone (
    read_everywhere c.args.keys.now hosts (Some c.args.held) c.args.sender c.args.registration c.args.tests.now (Some (unwrap_or (key_at c.args.keys.now c.args.registration) 0)) all.reading c.requires.fits all.whole
    (all.arm ∙ rw key at c.first_arm-then-holder-sender.ensures)
    (key_of_sender c.args.keys.now hosts (Some c.args.held) c.in-One.field-0 c.in-One.holder c.args.sender c.args.registration (ap Some c.in-One.is) same))

pub returns-else-holder-sender-clause-right : goal.returns-else-holder-sender-clause-right
returns-else-holder-sender-clause-right c hosts =
    let apart : c.in-One.holder ≢ c.args.sender = omega arith in
    rw c.in-One.is (c.by_holder.ensures.right hosts c.in-One.field-0 c.in-One.holder c.args.sender c.args.registration apart)
