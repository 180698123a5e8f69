use Rattle.pr_trace.proofs.Common.{◌+◌, arith, scenario_of, bytes_of_lines, names_in, names_of, most_items, MOST_LATER_LINES}
use Rattle.std.proofs.lemmas.Result.{err_from_is_err_and}
use Rattle.pr_trace.proofs.lemmas.LinesAhead.EntriesInFront.{entries_bounded}
use Rattle.pr_trace.proofs.lemmas.BytesTaken.Sums.{held_few, loses_of_trace, takes_both}
use Rattle.pr_trace.proofs.lemmas.TraceText.Lines.{version_read}
use Rattle.pr_trace.proofs.lemmas.TraceReadings.WholeTraces.{all_read, entry_fault, few_nexuses, first_fault, later_fault, names_read}
use Rattle.pr_trace.proofs.trace_reading.read_trace.Goals as goal

pub returns-in_err-read_first-clause-fault : goal.returns-in_err-read_first-clause-fault
returns-in_err-read_first-clause-fault g c =
    let names = names_in (scenario_of c.args.scenario.now) in
    let dated = version_read c.args.scenario.now c.parts-parts.result.now c.parts-parts.ensures.value in
    let p = err_from_is_err_and c.from_residual.result c.from_residual.ensures.1 in
    rw (p.1, p.2) (first_fault (g.R.Read.remaining c.args.reader.now) c.new-ahead.ensures _ _ dated names _ (c.in_err-read_first.ensures.fault names))

pub read_items-requires : goal.read_items-requires
read_items-requires g c = few_nexuses c.args.scenario.now c.parts-parts.result.now c.deref.result.now c.parts-parts.ensures.value c.deref.ensures.value c.parts-parts.ensures.fits

pub returns-in_err-history-clause-fault : goal.returns-in_err-history-clause-fault
returns-in_err-history-clause-fault g c =
    let names = names_of c.deref.result.now in
    let same = names_read c.args.scenario.now c.parts-parts.result.now c.deref.result.now c.parts-parts.ensures.value c.deref.ensures.value in
    let dated = version_read c.args.scenario.now c.parts-parts.result.now c.parts-parts.ensures.value in
    let p = err_from_is_err_and c.from_residual-in_err-history.result c.from_residual-in_err-history.ensures.1 in
    rw (p.1, p.2)
    (entry_fault (g.R.Read.remaining c.args.reader.now) c.new-ahead.ensures _ _ dated names (names_in (scenario_of c.args.scenario.now)) same (c.in_ok-read_first.ensures.ok names) _ c.in_err-history.ensures.fault)

pub returns-in_err-read_later-clause-fault : goal.returns-in_err-read_later-clause-fault
returns-in_err-read_later-clause-fault g c =
    let names = names_of c.deref.result.now in
    let same = names_read c.args.scenario.now c.parts-parts.result.now c.deref.result.now c.parts-parts.ensures.value c.deref.ensures.value in
    let dated = version_read c.args.scenario.now c.parts-parts.result.now c.parts-parts.ensures.value in
    let p = err_from_is_err_and c.from_residual-in_err-read_later.result c.from_residual-in_err-read_later.ensures.1 in
    let later = rw (c.len.ensures, c.in_ok-history.history.ok.0) at c.in_err-read_later.ensures.fault in
    rw (p.1, p.2)
    (later_fault (g.R.Read.remaining c.args.reader.now) c.new-ahead.ensures _ _ dated names (names_in (scenario_of c.args.scenario.now)) same (c.in_ok-read_first.ensures.ok names)
    c.in_ok-history.history.items c.in_ok-history.ensures.ok _ later)

pub returns-clause-read : goal.returns-clause-read
returns-clause-read g c =
    let names = names_of c.deref.result.now in
    let same = names_read c.args.scenario.now c.parts-parts.result.now c.deref.result.now c.parts-parts.ensures.value c.deref.ensures.value in
    let dated = version_read c.args.scenario.now c.parts-parts.result.now c.parts-parts.ensures.value in
    let later = rw (c.len.ensures, c.in_ok-history.history.ok.0) at c.in_ok-read_later.ensures.ok in
    all_read (g.R.Read.remaining c.args.reader.now) c.new-ahead.ensures _ _ dated names (names_in (scenario_of c.args.scenario.now)) same (c.in_ok-read_first.ensures.ok names)
    c.in_ok-history.history.items c.in_ok-history.ensures.ok later

pub read_later-requires : goal.read_later-requires
read_later-requires g c = entries_bounded c.parts-parts.result.now.version c.len.result (rw (c.len.ensures, c.in_ok-history.history.ok.0) c.in_ok-history.ensures.few)

pub returns-in_err-read_first-clause-limited : goal.returns-in_err-read_first-clause-limited
returns-in_err-read_first-clause-limited g c = loses_of_trace _ _ (version_read c.args.scenario.now c.parts-parts.result.now c.parts-parts.ensures.value) c.in_err-read_first.ensures.taken (omega arith) (held_few c.read_first.new.ahead)

pub returns-in_err-history-clause-limited : goal.returns-in_err-history-clause-limited
returns-in_err-history-clause-limited g c =
    let v = c.parts-parts.result.now.version in
    loses_of_trace _ _ (version_read c.args.scenario.now c.parts-parts.result.now c.parts-parts.ensures.value) (takes_both (bytes_of_lines (1 + most_items v)) c.in_ok-read_first.ensures.taken c.in_err-history.ensures.taken (omega arith)) (omega arith) (held_few c.read_items.new.ahead)

pub returns-in_err-read_later-clause-limited : goal.returns-in_err-read_later-clause-limited
returns-in_err-read_later-clause-limited g c =
    let v = c.parts-parts.result.now.version in
    let entries = takes_both (bytes_of_lines (1 + most_items v)) c.in_ok-read_first.ensures.taken c.in_ok-history.ensures.taken (omega arith) in
    loses_of_trace _ _ (version_read c.args.scenario.now c.parts-parts.result.now c.parts-parts.ensures.value) (takes_both (bytes_of_lines (1 + most_items v + MOST_LATER_LINES)) entries c.in_err-read_later.ensures.taken (omega arith)) (omega arith) (held_few c.read_later.new.ahead)

pub returns-clause-limited : goal.returns-clause-limited
returns-clause-limited g c =
    let v = c.parts-parts.result.now.version in
    let entries = takes_both (bytes_of_lines (1 + most_items v)) c.in_ok-read_first.ensures.taken c.in_ok-history.ensures.taken (omega arith) in
    loses_of_trace _ _ (version_read c.args.scenario.now c.parts-parts.result.now c.parts-parts.ensures.value) (takes_both (bytes_of_lines (1 + most_items v + MOST_LATER_LINES)) entries c.in_ok-read_later.ensures.taken (omega arith)) (omega arith) (held_few c.read_later.new.ahead)
