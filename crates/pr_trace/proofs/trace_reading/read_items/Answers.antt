use Rattle.pr_trace.proofs.Common.{◌≡◌, ◌+◌, ◌*◌, ◌≤◌, false, length, take, Ok, sym, ◌∙◌, subst, arith, length-take, bytes_of_lines, item_on, is_later, names_of, most_items, bytes_held, MOST_LINE_BYTES}
use Rattle.std.proofs.lemmas.Result.{err_from_is_err_and}
use Rattle.pr_trace.proofs.lemmas.LinesAhead.EntriesInFront.{entries_bounded, entries_end, entries_fault, entries_fewer, entries_more, entries_stop, entry_few, entry_short, one_longer}
use Rattle.pr_trace.proofs.lemmas.BytesTaken.Sums.{takes_both, takes_drop}
use Rattle.pr_trace.proofs.trace_reading.read_items.Given.{Over}
use Rattle.pr_trace.proofs.trace_reading.read_items.Goals as goal
use Rattle.pr_trace.proofs.trace_reading.read_items.Goals.{in-Some+then-is_later, in_default}

-- the line in front is that of the next entry
good : (g : Over) (c : goal.After-drop_line g) → item_on c.args.version (names_of c.args.nexuses.now) (length c.loop-history.history.items + 1) (take c.in-Some.end (bytes_held c.next_line.new.self)) ≡ Ok c.in_ok-item.item
good g c = sym (rw (c.len.ensures, c.loop-history.history.ok.0, c.as_slice.ensures) at c.in_ok-item.ensures)

pub returns-in_err-item-clause-fault : goal.returns-in_err-item-clause-fault
returns-in_err-item-clause-fault g c =
    let found = rw c.in-Some.is at c.in_ok-end.ensures.found in
    let entry : is_later (take c.in-Some.end (bytes_held c.next_line.new.self)) ≡ false = rw c.as_slice.ensures at (sym c.is_later.ensures ∙ c.if-is_later.false) in
    let p = err_from_is_err_and c.from_residual-in_err-item.result c.from_residual-in_err-item.ensures.1 in
    let bad = sym (rw (c.len.ensures, c.loop-history.history.ok.0, c.as_slice.ensures) at c.in_err-item.ensures) in
    rw (p.1, p.2) (entries_fault c.args.version (names_of c.args.nexuses.now) c.loop-history.history.items c.loop-history.invariant.0 found c.in_err-item.field-0.0 entry bad)

pub loop-history-smaller : goal.loop-history-smaller
loop-history-smaller g c = entries_fewer (length c.loop-history.history.items) (length c.push.new.self.items) (most_items c.args.version) (entry_few _ _ _ _ _ (good g c)) (one_longer _ _ _ c.in_ok-push.ensures.items)

pub loop-history-preserved : goal.loop-history-preserved
loop-history-preserved g c =
    let found = rw c.in-Some.is at c.in_ok-end.ensures.found in
    let entry : is_later (take c.in-Some.end (bytes_held c.next_line.new.self)) ≡ false = rw c.as_slice.ensures at (sym c.is_later.ensures ∙ c.if-is_later.false) in
    let longer = one_longer _ _ _ c.in_ok-push.ensures.items in
    let taken = takes_both (1025 * length c.loop-history.history.items) c.loop-history.invariant.2 c.in_ok-end.ensures.taken (omega arith) in
    let few : length c.push.new.self.items ≤ most_items c.args.version = subst (λ n. n ≤ most_items c.args.version) (sym longer) (entry_few _ _ _ _ _ (good g c)) in
    let short : c.in-Some.end ≤ MOST_LINE_BYTES = omega (arith, entry_short _ _ _ _ _ (good g c), length-take c.in-Some.end (bytes_held c.next_line.new.self), found.within) in (
      entries_more c.args.version (names_of c.args.nexuses.now) c.loop-history.history.items c.loop-history.invariant.0 found c.in_ok-item.item entry (good g c) c.drop_line.ensures c.in_ok-push.ensures.items,
      (few, entries_bounded c.args.version (length c.push.new.self.items) few),
      takes_drop (bytes_held c.next_line.new.self) (bytes_held c.drop_line.new.self) (1025 * length c.push.new.self.items) (c.in-Some.end + 1) taken c.drop_line.ensures (omega (arith, longer, short)),
    )

pub returns-in_err-end-clause-taken : goal.returns-in_err-end-clause-taken
returns-in_err-end-clause-taken g c = takes_both (bytes_of_lines (most_items c.args.version)) c.loop-history.invariant.2 c.in_err-end.ensures.taken (omega arith)

pub returns-in_err-item-clause-taken : goal.returns-in_err-item-clause-taken
returns-in_err-item-clause-taken g c = takes_both (bytes_of_lines (most_items c.args.version)) c.loop-history.invariant.2 c.in_ok-end.ensures.taken (omega arith)

pub returns-in_err-push-clause-taken : goal.returns-in_err-push-clause-taken
returns-in_err-push-clause-taken g c = takes_both (bytes_of_lines (most_items c.args.version)) c.loop-history.invariant.2 c.in_ok-end.ensures.taken (omega arith)

pub returns-clause-taken : goal.returns-clause-taken
returns-clause-taken g c = takes_both (bytes_of_lines (most_items c.args.version)) c.loop-history.invariant.2 c.in_ok-end.ensures.taken (omega arith)

pub returns-clause-ok : goal.returns-clause-ok
returns-clause-ok g c = elim c.match-branch-3.branch [
  | in-Some+then-is_later w ↦
      entries_stop c.args.version (names_of c.args.nexuses.now) c.loop-history.history.items c.loop-history.invariant.0 (rw w.in-Some.is at c.in_ok-end.ensures.found) (rw w.as_slice.ensures at (sym w.is_later.ensures ∙ w.if-is_later.true))
  | in_default w ↦ entries_end c.args.version (names_of c.args.nexuses.now) c.loop-history.history.items c.loop-history.invariant.0 (rw w.in_default.is at c.in_ok-end.ensures.found)
]
