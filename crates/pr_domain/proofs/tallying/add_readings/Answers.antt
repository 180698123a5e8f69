use Rattle.pr_domain.proofs.Common.{◌≡◌, ◌<◌, length, None, arith, view_in, Reading, IsReadAt}
use Rattle.std.proofs.lemmas.List.{get_or_default}
use Rattle.pr_domain.proofs.lemmas.Tallies.Growth.{grows_by_element}
use Rattle.pr_domain.proofs.tallying.add_readings.Goals as goal

abbrev spare : Reading
spare = record { region = record { holder = record { bits = 0 }; others = record { bits = 0 }; somebody = None }; arm = None }

pub loop-reading-preserved : goal.loop-reading-preserved
loop-reading-preserved c s c' tests right =
    let readings = c.args.readings.now in
    let n = c.loop-reading.reading-index in
    let small : n < length readings = omega arith in
    grows_by_element (view_in s c.args.view.now) c' tests c.args.tally.now c.loop-reading.tally c.add_reading.new.tally readings (IsReadAt s c.args.view.now c.args.place c.args.registration) n _
    small (get_or_default readings n _ spare small) (c.loop-reading.invariant s c' tests right) (c.add_reading.ensures s c' tests (right n spare small))

pub returns : goal.returns
returns c = let all : c.loop-reading.reading-index ≡ length c.args.readings.now = omega arith in rw all at c.loop-reading.invariant
