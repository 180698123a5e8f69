use Rattle.pr_trace.proofs.Common.{◌+◌, ◌*◌, arith, bytes_held}
use Rattle.std.proofs.lemmas.Grind.{common_steps}
use Rattle.pr_trace.proofs.lemmas.LinesAhead.EntriesInFront.{later_done}
use Rattle.pr_trace.proofs.lemmas.BytesTaken.Sums.{takes_both, takes_drop}
use Rattle.pr_trace.proofs.trace_reading.read_later.Goals as goal

pub returns-clause-ok : goal.returns-clause-ok
returns-clause-ok g c = later_done c.args.items c.loop-end.others c.loop-end.invariant.0 (rw c.in_default.is at c.in_ok-end.ensures.found)

pub returns-in_err-end-clause-taken : goal.returns-in_err-end-clause-taken
returns-in_err-end-clause-taken g c = takes_both 65600 c.loop-end.invariant.2 c.in_err-end.ensures.taken (omega arith)

pub returns-then-others-eq-MOST_LATER_LINES-clause-taken : goal.returns-then-others-eq-MOST_LATER_LINES-clause-taken
returns-then-others-eq-MOST_LATER_LINES-clause-taken g c = takes_both 65600 c.loop-end.invariant.2 c.in_ok-end.ensures.taken (omega arith)

pub returns-then-end-gt-MOST_LINE_BYTES-clause-taken : goal.returns-then-end-gt-MOST_LINE_BYTES-clause-taken
returns-then-end-gt-MOST_LINE_BYTES-clause-taken g c = takes_both 65600 c.loop-end.invariant.2 c.in_ok-end.ensures.taken (omega arith)

pub loop-end-preserved : goal.loop-end-preserved
loop-end-preserved g c =
    let taken = takes_both (1025 * c.loop-end.others) c.loop-end.invariant.2 c.in_ok-end.ensures.taken (omega arith) in (
      grind (arith, common_steps),
      omega arith,
      takes_drop (bytes_held c.next_line.new.self) (bytes_held c.drop_line.new.self) (1025 * (c.loop-end.others + 1)) (c.in-Some.end + 1) taken c.drop_line.ensures (omega arith),
    )

pub returns-clause-taken : goal.returns-clause-taken
returns-clause-taken g c = takes_both 65600 c.loop-end.invariant.2 c.in_ok-end.ensures.taken (omega arith)
