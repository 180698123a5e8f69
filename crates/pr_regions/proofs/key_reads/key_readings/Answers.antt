use Rattle.pr_regions.proofs.Common.{◌<◌, length, ◌∙◌, arith, length-append, ReadKeys, WRITTEN_LENGTH, IsProperReading, get_or_default}
use Rattle.std.proofs.lemmas.List.Elements.{All-push}
use Rattle.pr_regions.proofs.lemmas.Parts.Preemption.{none_is_not}
use Rattle.pr_regions.proofs.lemmas.Readings.KeyArms.{so_far_skip, so_far_more, read_always, read_by_none}
use Rattle.pr_regions.proofs.key_reads.key_readings.Goals as goal
use Rattle.pr_regions.proofs.key_reads.key_readings.Goals.{in-Never, in-Somebody}

pub returns-in-Always-clause-right : goal.returns-in-Always-clause-right
returns-in-Always-clause-right c hosts held sender =
    let small : c.loop-arm.arm < length c.args.tests.now = omega arith in
    rw c.push.ensures.items (rw c.open_to.ensures (
    read_always c.args.keys.now hosts held sender c.args.registration (ReadKeys WRITTEN_LENGTH) c.args.tests.now c.loop-arm.arm c.loop-arm.readings.items c.loop-arm.left _
    (c.loop-arm.invariant.so_far hosts held sender) small (get_or_default c.args.tests.now c.loop-arm.arm _ _ small) (c.in-Always.ensures.asked hosts held sender)))

pub loop-arm-preserved : goal.loop-arm-preserved
loop-arm-preserved c =
    let small : c.loop-arm.arm < length c.args.tests.now = omega arith in
    elim c.match-asked_by.branch [
      | in-Never w ↦ record {
        few = rw w.readings-is (let most = c.loop-arm.invariant.few in omega arith);
        so_far = λ hosts held sender.
            rw (w.readings-is, w.left-is) (
            so_far_skip c.args.keys.now hosts held sender c.args.registration (ReadKeys WRITTEN_LENGTH) c.args.tests.now c.loop-arm.arm c.loop-arm.readings.items c.loop-arm.left _
            (c.loop-arm.invariant.so_far hosts held sender) small (get_or_default c.args.tests.now c.loop-arm.arm _ _ small) (w.in-Never.ensures.asked hosts held sender));
        proper = rw w.readings-is c.loop-arm.invariant.proper;
      }
      | in-Somebody w ↦ record {
        few = rw (w.readings-is, w.push-in-Somebody.ensures.items) (simp length-append (let most = c.loop-arm.invariant.few in omega arith));
        so_far = λ hosts held sender.
            rw (w.readings-is, w.left-is, w.push-in-Somebody.ensures.items, w.open_to-in-Somebody.ensures) (
            so_far_more c.args.keys.now hosts held sender c.args.registration (ReadKeys WRITTEN_LENGTH) c.args.tests.now c.loop-arm.arm c.loop-arm.readings.items c.loop-arm.left w.only.result w.without-left.result _
            w.in-Somebody.key (c.loop-arm.invariant.so_far hosts held sender) small (get_or_default c.args.tests.now c.loop-arm.arm _ _ small) (w.in-Somebody.ensures.asked hosts held sender)
            (λ r few. w.only.ensures r) w.without-left.ensures);
        proper = rw (w.readings-is, w.push-in-Somebody.ensures.items) (All-push IsProperReading c.loop-arm.readings.items _ c.loop-arm.invariant.proper (w.only.ensures 0 ∙ none_is_not w.in-Somebody.key w.in-Somebody.ensures.small.0));
      }
    ]

pub returns-clause-right : goal.returns-clause-right
returns-clause-right c hosts held sender =
    rw c.push-2.ensures.items (rw c.open_to-2.ensures (
    read_by_none c.args.keys.now hosts held sender c.args.registration (ReadKeys WRITTEN_LENGTH) c.args.tests.now c.loop-arm.arm c.loop-arm.readings.items c.loop-arm.left
    (c.loop-arm.invariant.so_far hosts held sender) (omega arith)))
