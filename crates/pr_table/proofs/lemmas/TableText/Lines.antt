-- The lines of rows, one statement or arm after another.
use Rattle.pr_table.proofs.Common.{◌≡◌, ℕ, ◌+◌, ◌<◌, ◌≤◌, List, [], ◌∷◌, ◌++◌, length, drop, sym, ap, ◌∙◌, arith, flat_map, Arm, Statement, Stmts, more, arm, script_of, statement_of, statements_in, arms_in, row_count, row_count_of_all, row_count_of_arms, first_row, arm_rows, rows_of, rows_of_all, rows_of_arms, arm_line, row_text, rows_text}
use Rattle.std.proofs.Common.{get_or, append_assoc, drop_of_length-le, ◌-◌}
use Rattle.std.proofs.lemmas.List.{drop_more}
use Rattle.pr_table.specs.Rows.{TableRow}
use Rattle.pr_table.proofs.lemmas.Rows.Lengths.{length-rows_of, length-rows_of_all}

pub rows_text-append : (at : ℕ) (xs ys : List TableRow) → rows_text at (xs ++ ys) ≡ rows_text at xs ++ rows_text (at + length xs) ys
rows_text-append at [] ys = ap (λ k. rows_text k ys) (let e : at ≡ at + 0 = omega arith in e)
rows_text-append at (x ∷ xs) ys =
    let onward : at + 1 + length xs ≡ at + length (x ∷ xs) = omega arith in
    ap (λ t. row_text at x ++ t) (rows_text-append (at + 1) xs ys)
    ∙ ap (λ k. row_text at x ++ (rows_text (at + 1) xs ++ rows_text k ys)) onward
    ∙ sym (append_assoc (row_text at x) (rows_text (at + 1) xs) (rows_text (at + length (x ∷ xs)) ys))

-- rows behind those of statements
pub rows_then : (at next past : ℕ) (b : Stmts) (rows : List TableRow)
    → rows_text at (rows_of_all at next past b ++ rows) ≡ rows_text at (rows_of_all at next past b) ++ rows_text (at + row_count_of_all b) rows
rows_then at next past b rows =
    rows_text-append at (rows_of_all at next past b) rows
    ∙ ap (λ n. rows_text at (rows_of_all at next past b) ++ rows_text (at + n) rows) (length-rows_of_all at next past b)

-- ---- statements

module _ (xs : List Statement) (i : ℕ) (x : Statement) (within : i < length xs) (is : x ≡ get_or xs i x) where
  statements_from : statements_in (drop i xs) ≡ more (statement_of x) (statements_in (drop (i + 1) xs))
  statements_from = ap statements_in (drop_more xs i x within) ∙ ap (λ y. more (statement_of y) (statements_in (drop (i + 1) xs))) (sym is)

  pub rows_from : row_count_of_all (statements_in (drop i xs)) ≡ row_count (statement_of x) + row_count_of_all (statements_in (drop (i + 1) xs))
  rows_from = ap row_count_of_all statements_from

  pub text_from : (row next past : ℕ) → rows_text row (rows_of_all row next past (statements_in (drop i xs)))
      ≡ rows_text row (rows_of row (first_row (row + row_count (statement_of x)) next (statements_in (drop (i + 1) xs))) past (statement_of x))
      ++ rows_text (row + row_count (statement_of x)) (rows_of_all (row + row_count (statement_of x)) next past (statements_in (drop (i + 1) xs)))
  text_from row next past =
      let s = statement_of x in
      let rest = statements_in (drop (i + 1) xs) in
      let onto = first_row (row + row_count s) next rest in
      ap (λ b. rows_text row (rows_of_all row next past b)) statements_from
      ∙ rows_text-append row (rows_of row onto past s) (rows_of_all (row + row_count s) next past rest)
      ∙ ap (λ n. rows_text row (rows_of row onto past s) ++ rows_text (row + n) (rows_of_all (row + row_count s) next past rest)) (length-rows_of row onto past s)

-- ---- arms

module _ (xs : List Arm) (i : ℕ) (x : Arm) (within : i < length xs) (is : x ≡ get_or xs i x) where
  arms_from : arms_in (drop i xs) ≡ arm x.test (script_of x.body) (arms_in (drop (i + 1) xs))
  arms_from = ap arms_in (drop_more xs i x within) ∙ ap (λ (y : Arm). arm y.test (script_of y.body) (arms_in (drop (i + 1) xs))) (sym is)

  pub arm_rows_from : row_count_of_arms (arms_in (drop i xs)) ≡ row_count_of_all (script_of x.body) + row_count_of_arms (arms_in (drop (i + 1) xs))
  arm_rows_from = ap row_count_of_arms arms_from

  pub bodies_from : (row next past : ℕ) → rows_text row (rows_of_arms row next past (arms_in (drop i xs)))
      ≡ rows_text row (rows_of_all row next past (script_of x.body))
      ++ rows_text (row + row_count_of_all (script_of x.body)) (rows_of_arms (row + row_count_of_all (script_of x.body)) next past (arms_in (drop (i + 1) xs)))
  bodies_from row next past =
      let b = script_of x.body in
      let rest = arms_in (drop (i + 1) xs) in
      ap (λ a. rows_text row (rows_of_arms row next past a)) arms_from
      ∙ rows_then row next past b (rows_of_arms (row + row_count_of_all b) next past rest)

  pub lines_from : (row next : ℕ) → flat_map arm_line (arm_rows row next (arms_in (drop i xs)))
      ≡ arm_line (x.test, first_row row next (script_of x.body)) ++ flat_map arm_line (arm_rows (row + row_count_of_all (script_of x.body)) next (arms_in (drop (i + 1) xs)))
  lines_from row next = ap (λ a. flat_map arm_line (arm_rows row next a)) arms_from

pub lines_over : (xs : List Arm) (i row next : ℕ) → length xs ≤ i → flat_map arm_line (arm_rows row next (arms_in (drop i xs))) ≡ []
lines_over xs i row next over = ap (λ ys. flat_map arm_line (arm_rows row next (arms_in ys))) (drop_of_length-le xs {i = i} over)
