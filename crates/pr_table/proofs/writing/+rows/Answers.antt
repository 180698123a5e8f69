-- One statement or arm more, and a row of each kind.
use Rattle.pr_table.proofs.Common.{◌≡◌, ℕ, ◌+◌, List, [], ◌∷◌, drop, sym, ap, ◌∙◌, subst, arith, Appends, Arm, Statement, script_of, statement_of, statements_in, arms_in, tree_repeat, tree_send, FallsShort, Puts, Wrote, front_first, puts_err, puts_last, puts_as, again_row, arm_rows, first_row, row_count, row_count_of_all, row_count_of_arms, rows_of, rows_of_all, rows_of_arms, row_text, rows_text}
use Rattle.std.proofs.lemmas.List.{take_rest}
use Rattle.pr_output.proofs.lemmas.Written.Fronts.{wrote_front, wrote_more}
use Rattle.pr_table.specs.Rows.{send_row}
use Rattle.pr_table.proofs.lemmas.Rows.Counts.{rows_of_repeat, rows_of_send}
use Rattle.pr_table.proofs.lemmas.TableText.Lines.{arm_rows_from, bodies_from, rows_from, rows_then, text_from}
use Rattle.pr_table.proofs.writing.+rows.Goals as goal

-- ---- statements

pub put_statements-returns-in_err-put_statement : goal.put_statements-returns-in_err-put_statement
put_statements-returns-in_err-put_statement g t c =
    let x = c.index-statements-i.result in
    let s = statement_of x in
    let xs = c.args.statements.now in
    let i = c.loop-i.i in
    let row = c.loop-i.row in
    let here = text_from xs i x c.loop-i-test.true c.index-statements-i.is row c.args.next c.args.past in
    let count : c.row_count.result ≡ row_count s = omega (arith, rows_from xs i x c.loop-i-test.true c.index-statements-i.is, c.loop-i.invariant.row, c.requires, c.row_count.ensures) in
    let onto = c.first_row-onto.ensures ∙ ap (λ (ys : List Statement). first_row (row + c.row_count.result) c.args.next (statements_in ys)) (take_rest xs (i + 1)) ∙ ap (λ k. first_row (row + k) c.args.next (statements_in (drop (i + 1) xs))) count in
    let short = subst (λ (k : ℕ). FallsShort (g.W.Write.contents c.loop-i.writer) (g.W.Write.contents c.put_statement.new.writer) (rows_text row (rows_of row k c.args.past s))) onto c.in_err-put_statement.ensures in
    puts_err _ _ _ _ (wrote_front _ _ _ _ _ _ (rw here at c.loop-i.invariant.wrote) short) c.from_residual.ensures.0

pub put_statements-loop-i-preserved : goal.put_statements-loop-i-preserved
put_statements-loop-i-preserved g t c =
    let x = c.index-statements-i.result in
    let s = statement_of x in
    let xs = c.args.statements.now in
    let i = c.loop-i.i in
    let row = c.loop-i.row in
    let here = text_from xs i x c.loop-i-test.true c.index-statements-i.is row c.args.next c.args.past in
    let rows = rows_from xs i x c.loop-i-test.true c.index-statements-i.is in
    let was = c.loop-i.invariant.row in
    let count : c.row_count.result ≡ row_count s = omega (arith, rows, was, c.requires, c.row_count.ensures) in
    let onto = c.first_row-onto.ensures ∙ ap (λ (ys : List Statement). first_row (row + c.row_count.result) c.args.next (statements_in ys)) (take_rest xs (i + 1)) ∙ ap (λ k. first_row (row + k) c.args.next (statements_in (drop (i + 1) xs))) count in
    let done = subst (λ (k : ℕ). Appends (g.W.Write.contents c.loop-i.writer) (g.W.Write.contents c.put_statement.new.writer) (rows_text row (rows_of row k c.args.past s))) onto c.in_ok-put_statement.ensures in
    record {
      wrote = subst (λ n. Wrote (g.W.Write.contents c.args.writer.now) (g.W.Write.contents c.put_statement.new.writer) (rows_text c.args.at (rows_of_all c.args.at c.args.next c.args.past (statements_in xs)))
          (rows_text (row + n) (rows_of_all (row + n) c.args.next c.args.past (statements_in (drop (i + 1) xs))))) (sym count)
          (wrote_more _ _ _ _ _ _ (rw here at c.loop-i.invariant.wrote) done);
      after = omega (arith, c.loop-i.invariant.after);
      row = omega (arith, rows, was, count);
    }

-- ---- the bodies of arms

pub put_bodies-returns-in_err-put_statements : goal.put_bodies-returns-in_err-put_statements
put_bodies-returns-in_err-put_statements g t c =
    let x = c.arm-item.result in
    let row = c.loop-arm.row in
    let here = bodies_from c.args.arms.now c.loop-arm.arm-index x c.loop-arm-test.true c.arm-item.is row c.args.next c.args.past in
    let short = subst (λ (ys : List Statement). FallsShort (g.W.Write.contents c.loop-arm.writer) (g.W.Write.contents c.put_statements.new.writer) (rows_text row (rows_of_all row c.args.next c.args.past (statements_in ys)))) c.deref.ensures.value c.in_err-put_statements.ensures in
    puts_err _ _ _ _ (wrote_front _ _ _ _ _ _ (rw here at c.loop-arm.invariant.wrote) short) c.from_residual.ensures.0

pub put_bodies-loop-arm-preserved : goal.put_bodies-loop-arm-preserved
put_bodies-loop-arm-preserved g t c =
    let x = c.arm-item.result in
    let xs = c.args.arms.now in
    let i = c.loop-arm.arm-index in
    let row = c.loop-arm.row in
    let here = bodies_from xs i x c.loop-arm-test.true c.arm-item.is row c.args.next c.args.past in
    let done = subst (λ (ys : List Statement). Appends (g.W.Write.contents c.loop-arm.writer) (g.W.Write.contents c.put_statements.new.writer) (rows_text row (rows_of_all row c.args.next c.args.past (statements_in ys)))) c.deref.ensures.value c.in_ok-put_statements.ensures in
    let rows = arm_rows_from xs i x c.loop-arm-test.true c.arm-item.is in
    let was = c.loop-arm.invariant.row in
    let count : row_count_of_all (script_of x.body) ≡ c.row_count_of_all-row.result = omega (arith, rows, was, c.requires, c.row_count_of_all-row.ensures) in
    record {
      wrote = subst (λ n. Wrote (g.W.Write.contents c.args.writer.now) (g.W.Write.contents c.put_statements.new.writer) (rows_text c.args.at (rows_of_arms c.args.at c.args.next c.args.past (arms_in xs)))
          (rows_text (row + n) (rows_of_arms (row + n) c.args.next c.args.past (arms_in (drop (i + 1) xs))))) count
          (wrote_more _ _ _ _ _ _ (rw here at c.loop-arm.invariant.wrote) done);
      after = omega (arith, c.loop-arm.invariant.after);
      row = omega (arith, rows, was, count);
    }

-- ---- the body of a repeat

pub put_body-returns-in_err-put_statements : goal.put_body-returns-in_err-put_statements
put_body-returns-in_err-put_statements g t c =
    let b = script_of c.args.body.now in
    let at = c.args.repeat + 1 in
    let count : c.args.repeat + 1 + c.row_count_of_all.result ≡ at + row_count_of_all b = omega (arith, c.requires, c.row_count_of_all.ensures) in
    let counted = subst (λ (k : ℕ). FallsShort (g.W.Write.contents c.args.writer.now) (g.W.Write.contents c.put_statements.new.writer) (rows_text at (rows_of_all at k c.args.past (statements_in c.deref.result.now)))) count c.in_err-put_statements.ensures in
    let short = subst (λ (ys : List Statement). FallsShort (g.W.Write.contents c.args.writer.now) (g.W.Write.contents c.put_statements.new.writer) (rows_text at (rows_of_all at (at + row_count_of_all b) c.args.past (statements_in ys)))) c.deref.ensures.value counted in
    puts_as _ _ _ _ _ (rows_then at (at + row_count_of_all b) c.args.past b (again_row c.args.repeat ∷ [])) (puts_err _ _ _ _ (front_first _ _ _ _ short) c.from_residual.ensures.0)

pub put_body-returns : goal.put_body-returns
put_body-returns g t c =
    let b = script_of c.args.body.now in
    let at = c.args.repeat + 1 in
    let count : c.args.repeat + 1 + c.row_count_of_all.result ≡ at + row_count_of_all b = omega (arith, c.requires, c.row_count_of_all.ensures) in
    let counted = subst (λ (k : ℕ). Appends (g.W.Write.contents c.args.writer.now) (g.W.Write.contents c.put_statements.new.writer) (rows_text at (rows_of_all at k c.args.past (statements_in c.deref.result.now)))) count c.in_ok-put_statements.ensures in
    let done = subst (λ (ys : List Statement). Appends (g.W.Write.contents c.args.writer.now) (g.W.Write.contents c.put_statements.new.writer) (rows_text at (rows_of_all at (at + row_count_of_all b) c.args.past (statements_in ys)))) c.deref.ensures.value counted in
    let last = subst (λ (k : ℕ). Puts (g.W.Write.contents c.put_statements.new.writer) (g.W.Write.contents c.put_again.new.writer) (rows_text k (again_row c.args.repeat ∷ [])) c.put_again.result) count c.put_again.ensures in
    puts_as _ _ _ _ _ (rows_then at (at + row_count_of_all b) c.args.past b (again_row c.args.repeat ∷ [])) (puts_last _ _ _ _ _ _ done last)

-- ---- a statement

pub put_statement-put_send-requires : goal.put_statement-put_send-requires
put_statement-put_send-requires g t c =
    let is = ap row_count (ap statement_of c.in-Send.is ∙ tree_send c.in-Send.line c.in-Send.command c.in-Send.arms) in
    let arms = ap (λ (xs : List Arm). row_count_of_arms (arms_in xs)) c.deref.ensures.value in
    omega (arith, c.requires, is, arms)

pub put_statement-returns-in_err-put_send-in-Send : goal.put_statement-returns-in_err-put_send-in-Send
put_statement-returns-in_err-put_send-in-Send g t c =
    let same = ap (λ s. rows_text c.args.at (rows_of c.args.at c.args.next c.args.past s)) (ap statement_of c.in-Send.is ∙ tree_send c.in-Send.line c.in-Send.command c.in-Send.arms) in
    let short = subst (λ (xs : List Arm). FallsShort (g.W.Write.contents c.args.writer.now) (g.W.Write.contents c.put_send.new.writer)
    (row_text c.args.at (send_row c.in-Send.line c.in-Send.command (arm_rows (c.args.at + 1) c.args.next (arms_in xs))))) c.deref.ensures.value c.in_err-put_send-in-Send.ensures in
    puts_as _ _ _ _ _ same (puts_err _ _ _ _ (front_first _ _ _ _ short) c.from_residual.ensures.0)

pub put_statement-returns-in_ok-put_send-in-Send : goal.put_statement-returns-in_ok-put_send-in-Send
put_statement-returns-in_ok-put_send-in-Send g t c =
    let same = ap (λ s. rows_text c.args.at (rows_of c.args.at c.args.next c.args.past s)) (ap statement_of c.in-Send.is ∙ tree_send c.in-Send.line c.in-Send.command c.in-Send.arms) in
    let done = subst (λ (xs : List Arm). Appends (g.W.Write.contents c.args.writer.now) (g.W.Write.contents c.put_send.new.writer)
    (row_text c.args.at (send_row c.in-Send.line c.in-Send.command (arm_rows (c.args.at + 1) c.args.next (arms_in xs))))) c.deref.ensures.value c.in_ok-put_send-in-Send.ensures in
    let rest = subst (λ (xs : List Arm). Puts (g.W.Write.contents c.put_send.new.writer) (g.W.Write.contents c.put_bodies.new.writer)
    (rows_text (c.args.at + 1) (rows_of_arms (c.args.at + 1) c.args.next c.args.past (arms_in xs))) c.put_bodies.result) c.deref-in-Send.ensures.value c.put_bodies.ensures in
    puts_as _ _ _ _ _ same (puts_last _ _ _ _ _ _ done rest)

pub put_statement-returns-in_err-put_repeat-in-Repeat : goal.put_statement-returns-in_err-put_repeat-in-Repeat
put_statement-returns-in_err-put_repeat-in-Repeat g t c =
    let same = ap (λ s. rows_text c.args.at (rows_of c.args.at c.args.next c.args.past s)) (ap statement_of c.in-Repeat.is ∙ tree_repeat c.in-Repeat.count c.in-Repeat.body) in
    puts_as _ _ _ _ _ same (puts_err _ _ _ _ (front_first _ _ _ _ c.in_err-put_repeat-in-Repeat.ensures) c.from_residual-in_err-put_repeat-in-Repeat.ensures.0)

pub put_statement-returns-in_ok-put_repeat-in-Repeat : goal.put_statement-returns-in_ok-put_repeat-in-Repeat
put_statement-returns-in_ok-put_repeat-in-Repeat g t c =
    let same = ap (λ s. rows_text c.args.at (rows_of c.args.at c.args.next c.args.past s)) (ap statement_of c.in-Repeat.is ∙ tree_repeat c.in-Repeat.count c.in-Repeat.body) in
    puts_as _ _ _ _ _ same (puts_last _ _ _ _ _ _ c.in_ok-put_repeat-in-Repeat.ensures c.put_body.ensures)

-- ---- the calls in a circle

pub put_statements-put_statement-requires : goal.put_statements-put_statement-requires
put_statements-put_statement-requires g t c κs within =
    let rows = rows_from c.args.statements.now c.loop-i.i c.index-statements-i.result c.loop-i-test.true c.index-statements-i.is in
    (omega (arith, rows, c.loop-i.invariant.row, c.loop-i.invariant.after, c.decreases), (within, omega (arith, rows, c.loop-i.invariant.row, c.requires)))

pub put_bodies-put_statements-requires : goal.put_bodies-put_statements-requires
put_bodies-put_statements-requires g t c κs within =
    let rows = arm_rows_from c.args.arms.now c.loop-arm.arm-index c.arm-item.result c.loop-arm-test.true c.arm-item.is in
    let body = ap (λ (ys : List Statement). row_count_of_all (statements_in ys)) c.deref.ensures.value in
    (omega (arith, rows, body, c.loop-arm.invariant.row, c.loop-arm.invariant.after, c.decreases), (within, omega (arith, rows, body, c.loop-arm.invariant.row, c.requires)))

pub put_statement-put_bodies-requires : goal.put_statement-put_bodies-requires
put_statement-put_bodies-requires g t c κs within =
    let is = rows_of_send c.args.statement.now c.in-Send.line c.in-Send.command c.in-Send.arms c.in-Send.is in
    let arms = ap (λ (xs : List Arm). row_count_of_arms (arms_in xs)) c.deref-in-Send.ensures.value in
    (omega (arith, is, arms, c.decreases), (within, omega (arith, is, arms, c.requires)))

pub put_statement-put_body-requires : goal.put_statement-put_body-requires
put_statement-put_body-requires g t c κs within =
    let is = rows_of_repeat c.args.statement.now c.in-Repeat.count c.in-Repeat.body c.in-Repeat.is in
    (omega (arith, is, c.decreases), (within, omega (arith, is, c.requires)))
