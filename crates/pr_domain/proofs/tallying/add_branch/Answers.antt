use Rattle.pr_domain.proofs.Common.{◌≡◌, suc, ◌+◌, arith}
use Rattle.pr_domain.proofs.lemmas.Tallies.RegionStates.{leaf_conflict, leaf_fault, leaf_good}
use Rattle.pr_domain.proofs.tallying.add_branch.Goals as goal

pub returns-in-Conflict : goal.returns-in-Conflict
returns-in-Conflict c s c' tests right =
    leaf_conflict s c' tests c.args.view.now c.args.place c.args.senders c.args.branch.now c.args.arm.number c.in-Some.registrations c.part-here.result c.args.tally.now c.add.new.self right c.in-Conflict.is
    (c.in-Some.ensures.some s right.is right.uniform right.proper) c.in-Some.ensures.beyond c.part-here.ensures.registrations c.part-here.ensures.reservations c.add.ensures

pub returns-in-Fault : goal.returns-in-Fault
returns-in-Fault c s c' tests right =
    leaf_fault s c' tests c.args.view.now c.args.place c.args.senders c.args.branch.now c.args.arm.number c.in-Fault.field-0 c.in-Some.registrations c.part-here.result c.args.tally.now c.add-in-Fault.new.self c.add-in-Fault-2.new.self right c.in-Fault.is
    (c.in-Some.ensures.some s right.is right.uniform right.proper) c.in-Some.ensures.beyond c.part-here.ensures.registrations c.part-here.ensures.reservations c.add-in-Fault.ensures c.add-in-Fault-2.ensures

pub returns-in-Good : goal.returns-in-Good
returns-in-Good c s c' tests right =
    let way : 3 + c.args.arm.number ≡ suc (suc (suc c.args.arm.number)) = omega arith in
    leaf_good s c' tests c.args.view.now c.args.place c.args.senders c.args.branch.now c.args.arm.number (3 + c.args.arm.number) c.in-Good.change c.in-Some.registrations c.registrations_after-after.result c.part-here.result c.part.result c.args.tally.now c.add-in-Good.new.self c.add-in-Good-2.new.self
    right c.in-Good.is way (c.in-Some.ensures.some s right.is right.uniform right.proper) c.in-Some.ensures.beyond c.part-here.ensures.registrations c.part-here.ensures.reservations
    c.registrations_after-after.ensures c.part.ensures.registrations c.part.ensures.reservations c.add-in-Good.ensures c.add-in-Good-2.ensures
