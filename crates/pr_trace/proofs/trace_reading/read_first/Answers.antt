use Rattle.pr_trace.proofs.Common.{◌≡◌, ◌+◌, true, [], take, bytes_eq, sym, ◌∙◌, arith, first_line, bytes_held}
use Rattle.pr_trace.proofs.lemmas.LinesAhead.EntriesInFront.{first_few, first_missing, first_other, first_right}
use Rattle.pr_trace.proofs.lemmas.BytesTaken.Sums.{takes_drop}
use Rattle.pr_trace.proofs.trace_reading.read_first.Given.{Over}
use Rattle.pr_trace.proofs.trace_reading.read_first.Goals as goal

-- the line in front is the first of a trace
right : (g : Over) (c : goal.After-drop_line g) → bytes_eq (take c.in-Some.end (bytes_held c.next_line.new.self)) (first_line c.args.version) ≡ true
right g c = rw c.as_slice.ensures at (sym c.is_first.ensures ∙ c.if-not-is_first.false)

pub returns-in_default-clause-fault : goal.returns-in_default-clause-fault
returns-in_default-clause-fault g c = λ names. first_missing c.args.version names (rw c.in_default.is at c.in_ok-end.ensures.found)

pub returns-then-not-is_first-clause-fault : goal.returns-then-not-is_first-clause-fault
returns-then-not-is_first-clause-fault g c =
    let other = rw c.as_slice.ensures at (sym c.is_first.ensures ∙ c.if-not-is_first.true) in
    λ names. first_other c.args.version names (rw c.in-Some.is at c.in_ok-end.ensures.found) other

pub returns-clause-ok : goal.returns-clause-ok
returns-clause-ok g c = λ names. first_right c.args.version names (rw c.in-Some.is at c.in_ok-end.ensures.found) (right g c) c.drop_line.ensures

pub returns-clause-taken : goal.returns-clause-taken
returns-clause-taken g c =
    let short = first_few c.args.version [] (rw c.in-Some.is at c.in_ok-end.ensures.found) (right g c) in
    takes_drop (bytes_held c.next_line.new.self) (bytes_held c.drop_line.new.self) 1025 (c.in-Some.end + 1) c.in_ok-end.ensures.taken c.drop_line.ensures (omega (arith, short))
