-- The rows of its statements, and the end.
use Rattle.pr_table.proofs.Common.{◌≡◌, ℕ, ◌+◌, List, [], ◌∷◌, subst, arith, Appends, Statement, script_of, statements_in, FallsShort, Puts, front_first, puts_err, puts_last, puts_as, row_count_of_all, rows_of_all, rows_text}
use Rattle.std.specs.Prelude.{codes}
use Rattle.pr_table.specs.Rows.{stop_row}
use Rattle.pr_table.proofs.lemmas.TableText.Lines.{rows_then}
use Rattle.pr_table.proofs.writing.put_script.Goals as goal

pub returns-in_err-put_statements : goal.returns-in_err-put_statements
returns-in_err-put_statements g c =
    let b = script_of c.args.script.now in
    let count : 1 + c.row_count_of_all-end.result ≡ 1 + row_count_of_all b = omega (arith, c.requires, c.row_count_of_all-end.ensures) in
    let end = 1 + row_count_of_all b in
    let counted = subst (λ (k : ℕ). FallsShort (g.W.Write.contents c.args.writer.now) (g.W.Write.contents c.put_statements.new.writer) (rows_text 1 (rows_of_all 1 k k (statements_in c.deref.result.now)))) count c.in_err-put_statements.ensures in
    let short = subst (λ (ys : List Statement). FallsShort (g.W.Write.contents c.args.writer.now) (g.W.Write.contents c.put_statements.new.writer) (rows_text 1 (rows_of_all 1 end end (statements_in ys)))) c.deref.ensures.value counted in
    puts_as _ _ _ _ _ (rows_then 1 end end b (stop_row (codes "end") ∷ [])) (puts_err _ _ _ _ (front_first _ _ _ _ short) c.from_residual.ensures.0)

pub returns : goal.returns
returns g c =
    let b = script_of c.args.script.now in
    let count : 1 + c.row_count_of_all-end.result ≡ 1 + row_count_of_all b = omega (arith, c.requires, c.row_count_of_all-end.ensures) in
    let end = 1 + row_count_of_all b in
    let counted = subst (λ (k : ℕ). Appends (g.W.Write.contents c.args.writer.now) (g.W.Write.contents c.put_statements.new.writer) (rows_text 1 (rows_of_all 1 k k (statements_in c.deref.result.now)))) count c.in_ok-put_statements.ensures in
    let done = subst (λ (ys : List Statement). Appends (g.W.Write.contents c.args.writer.now) (g.W.Write.contents c.put_statements.new.writer) (rows_text 1 (rows_of_all 1 end end (statements_in ys)))) c.deref.ensures.value counted in
    let last = subst (λ (k : ℕ). Puts (g.W.Write.contents c.put_statements.new.writer) (g.W.Write.contents c.put_stop.new.writer) (rows_text k (stop_row (codes "end") ∷ [])) c.put_stop.result) count c.put_stop.ensures in
    puts_as _ _ _ _ _ (rows_then 1 end end b (stop_row (codes "end") ∷ [])) (puts_last _ _ _ _ _ _ done last)
