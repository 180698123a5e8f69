use Rattle.pr_trace.proofs.Common.{◌<◌, length, sym, ◌∙◌, arith, bytes_held, bytes_left}
use Rattle.std.proofs.KnownBytes.{Keeps-trans}
use Rattle.pr_trace.proofs.lemmas.LinesAhead.LinesInFront.{finds_at_end, finds_at_hand}
use Rattle.pr_trace.proofs.lemmas.BytesTaken.Sums.{takes_both}
use Rattle.pr_trace.proofs.ahead.Ahead.next_line.Goals as goal

pub returns-in-Some-clause-found : goal.returns-in-Some-clause-found
returns-in-Some-clause-found g c = finds_at_hand c.in-Some.end c.loop-end.invariant.0 (sym c.line_end.ensures ∙ c.in-Some.is)

pub returns-else-rest-eq0-clause-found : goal.returns-else-rest-eq0-clause-found
returns-else-rest-eq0-clause-found g c =
    let grown = rw c.if-not-branch.true at c.in_ok-read_more.ensures.grown in
    let some : 0 < length c.as_slice-rest.result.now = omega arith in
    let some_held : 0 < length (bytes_held c.read_more.new.self) = rw c.as_slice-rest.ensures at some in
    let before = bytes_left c.args.self.now (g.R.Read.remaining c.args.reader.now) in
    let between = bytes_left c.loop-end.self (g.R.Read.remaining c.loop-end.reader) in
    let after = bytes_left c.read_more.new.self (g.R.Read.remaining c.read_more.new.reader) in
    rw c.as_slice-rest.ensures (finds_at_end {start = before} (Keeps-trans before between after c.loop-end.invariant.0 c.in_ok-read_more.ensures.kept) (sym c.line_end.ensures ∙ c.in_default.is) grown.0 grown.1 some_held)

pub returns-in_err-read_more-clause-taken : goal.returns-in_err-read_more-clause-taken
returns-in_err-read_more-clause-taken g c = takes_both 0 c.loop-end.invariant.1 c.in_err-read_more.ensures.taken (omega arith)

pub returns-then-rest-eq0-clause-taken : goal.returns-then-rest-eq0-clause-taken
returns-then-rest-eq0-clause-taken g c = takes_both 0 c.loop-end.invariant.1 c.in_ok-read_more.ensures.taken (omega arith)

pub returns-else-rest-eq0-clause-taken : goal.returns-else-rest-eq0-clause-taken
returns-else-rest-eq0-clause-taken g c = takes_both 0 c.loop-end.invariant.1 c.in_ok-read_more.ensures.taken (omega arith)

pub loop-end-preserved : goal.loop-end-preserved
loop-end-preserved g c =
    let before = bytes_left c.args.self.now (g.R.Read.remaining c.args.reader.now) in
    let between = bytes_left c.loop-end.self (g.R.Read.remaining c.loop-end.reader) in
    let after = bytes_left c.read_more.new.self (g.R.Read.remaining c.read_more.new.reader) in
    (Keeps-trans before between after c.loop-end.invariant.0 c.in_ok-read_more.ensures.kept, takes_both 0 c.loop-end.invariant.1 c.in_ok-read_more.ensures.taken (omega arith))
