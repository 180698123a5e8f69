-- As many rows as are counted.
use Rattle.pr_table.proofs.Common.{◌≡◌, ℕ, ◌+◌, [], ◌∷◌, length, refl, arith, Stmts, Arms, sends, repeats, breaks, stops, none, more, no_arm, arm, again_row, row_count, row_count_of_all, row_count_of_arms, first_row, rows_of, rows_of_all, rows_of_arms}
use Rattle.std.proofs.Common.{length-append}
use Rattle.pr_script.specs.Scripts.{Stmt}

mutual
  pub length-rows_of : (at next past : ℕ) (s : Stmt) → length (rows_of at next past s) ≡ row_count s
  length-rows_of at next past (sends line command arms) = omega (arith, length-rows_of_arms (at + 1) next past arms)
  length-rows_of at next past (repeats count body) =
      omega (arith, length-append (rows_of_all (at + 1) (at + 1 + row_count_of_all body) next body) (again_row at ∷ []), length-rows_of_all (at + 1) (at + 1 + row_count_of_all body) next body)
  length-rows_of at next past breaks = refl
  length-rows_of at next past (stops word) = refl

  pub length-rows_of_all : (at next past : ℕ) (b : Stmts) → length (rows_of_all at next past b) ≡ row_count_of_all b
  length-rows_of_all at next past none = refl
  length-rows_of_all at next past (more s rest) =
      let onto = first_row (at + row_count s) next rest in
      omega (arith, length-append (rows_of at onto past s) (rows_of_all (at + row_count s) next past rest), length-rows_of at onto past s, length-rows_of_all (at + row_count s) next past rest)

  pub length-rows_of_arms : (at next past : ℕ) (a : Arms) → length (rows_of_arms at next past a) ≡ row_count_of_arms a
  length-rows_of_arms at next past no_arm = refl
  length-rows_of_arms at next past (arm test body rest) =
      omega (arith, length-append (rows_of_all at next past body) (rows_of_arms (at + row_count_of_all body) next past rest), length-rows_of_all at next past body, length-rows_of_arms (at + row_count_of_all body) next past rest)
