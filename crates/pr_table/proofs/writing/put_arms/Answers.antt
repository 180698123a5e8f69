-- One arm more.
use Rattle.pr_table.proofs.Common.{◌≡◌, ℕ, ◌+◌, List, drop, ap, ◌∙◌, subst, arith, Appends, flat_map, Statement, script_of, statements_in, arms_in, FallsShort, Wrote, puts_err, arm_rows, first_row, row_count_of_all, arm_line}
use Rattle.pr_output.proofs.lemmas.Written.Fronts.{wrote_front, wrote_more}
use Rattle.pr_table.proofs.lemmas.TableText.Lines.{arm_rows_from, lines_from}
use Rattle.pr_table.proofs.writing.put_arms.Goals as goal

pub returns-in_err-put_arm : goal.returns-in_err-put_arm
returns-in_err-put_arm g c =
    let x = c.arm-item.result in
    let here = lines_from c.args.arms.now c.loop-arm.arm-index x c.loop-arm-test.true c.arm-item.is c.loop-arm.row c.args.next in
    let to = c.first_row.ensures ∙ ap (λ (ys : List Statement). first_row c.loop-arm.row c.args.next (statements_in ys)) c.deref.ensures.value in
    let short = subst (λ (k : ℕ). FallsShort (g.W.Write.contents c.loop-arm.writer) (g.W.Write.contents c.put_arm.new.writer) (arm_line (x.test, k))) to c.in_err-put_arm.ensures in
    puts_err _ _ _ _ (wrote_front _ _ _ _ _ _ (rw here at c.loop-arm.invariant.wrote) short) c.from_residual.ensures.0

pub loop-arm-preserved : goal.loop-arm-preserved
loop-arm-preserved g c =
    let x = c.arm-item.result in
    let xs = c.args.arms.now in
    let i = c.loop-arm.arm-index in
    let here = lines_from xs i x c.loop-arm-test.true c.arm-item.is c.loop-arm.row c.args.next in
    let to = c.first_row.ensures ∙ ap (λ (ys : List Statement). first_row c.loop-arm.row c.args.next (statements_in ys)) c.deref.ensures.value in
    let done = subst (λ (k : ℕ). Appends (g.W.Write.contents c.loop-arm.writer) (g.W.Write.contents c.put_arm.new.writer) (arm_line (x.test, k))) to c.in_ok-put_arm.ensures in
    let rows = arm_rows_from xs i x c.loop-arm-test.true c.arm-item.is in
    let was = c.loop-arm.invariant.row in
    let count : row_count_of_all (script_of x.body) ≡ c.row_count_of_all-row.result = omega (arith, rows, was, c.requires, c.row_count_of_all-row.ensures) in
    record {
      wrote = subst (λ n. Wrote (g.W.Write.contents c.args.writer.now) (g.W.Write.contents c.put_arm.new.writer) (flat_map arm_line (arm_rows c.args.at c.args.next (arms_in xs)))
          (flat_map arm_line (arm_rows (c.loop-arm.row + n) c.args.next (arms_in (drop (i + 1) xs))))) count
          (wrote_more _ _ _ _ _ _ (rw here at c.loop-arm.invariant.wrote) done);
      row = omega (arith, rows, was, count);
    }
