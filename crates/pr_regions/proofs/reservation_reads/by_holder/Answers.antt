use Rattle.pr_regions.proofs.Common.{◌<◌, length, arith, length-append, IsProperReading, get_or_default}
use Rattle.std.proofs.lemmas.List.Elements.{All-push}
use Rattle.pr_regions.proofs.lemmas.Parts.Branches.{untested}
use Rattle.pr_regions.proofs.lemmas.Readings.ReservationArms.{held_more, held_all}
use Rattle.pr_regions.proofs.reservation_reads.by_holder.Goals as goal

pub loop-place-preserved : goal.loop-place-preserved
loop-place-preserved c =
    let small : c.loop-place.place < length c.args.keys.now = omega arith in
    record {
      few = rw c.push.ensures.items (simp length-append (let most = c.loop-place.invariant.few in omega arith));
      so_far = λ hosts kind holder sender own apart.
          rw c.push.ensures.items (
          held_more c.args.keys.now hosts kind holder sender own c.args.tests.now c.loop-place.place _ c.loop-place.readings.items _ c.requires.fits small (get_or_default c.args.keys.now c.loop-place.place _ _ small) apart
          (record { to_holder = λ r few. c.only.ensures r; to_others = c.whole.ensures.to_others; tested = c.whole.ensures.tested }) c.first_arm.ensures
          (c.loop-place.invariant.so_far hosts kind holder sender own apart));
      proper = rw c.push.ensures.items (All-push IsProperReading c.loop-place.readings.items _ c.loop-place.invariant.proper (untested _ c.whole.ensures.tested));
    }

pub returns-clause-right : goal.returns-clause-right
returns-clause-right c hosts kind holder sender own apart =
    held_all c.args.keys.now hosts kind holder sender own c.args.tests.now c.loop-place.place c.loop-place.readings.items (omega arith) (c.loop-place.invariant.so_far hosts kind holder sender own apart)
